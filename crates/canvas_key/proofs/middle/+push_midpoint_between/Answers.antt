use Rattle.std.proofs.Common.{ap, drop, sym, ◌++◌, ◌∙◌}
use Rattle.std.proofs.lemmas.List.{at_drop_all}
use Rattle.canvas_key.specs.Middle.{midpoint_between}
use Rattle.canvas_key.proofs.Apart.{after, between-other, between-same, instead}
use Rattle.canvas_key.proofs.middle.+push_midpoint_between.Goals as goal

pub returns-then-at-high : goal.returns-then-at-high
returns-then-at-high t c =
    let a = c.args in
    c.push_midpoint_above.ensures ∙ ap (λ x. a.draft.now.items ++ x) (sym (at_drop_all (midpoint_between (drop a.at a.low.now)) a.high.now a.at c.if-at-high.true))

pub returns-then-digit_at-high : goal.returns-then-digit_at-high
returns-then-digit_at-high t c =
    let a = c.args in
    after _ _ _ _ _ c.push.ensures.items c.push_midpoint_between.ensures ∙ ap (λ x. a.draft.now.items ++ x) (sym (between-same a.low.now a.high.now a.at c.digit_at.result c.if-at-high.false c.digit_at.ensures.value c.if-digit_at-high.true))

pub returns-else-digit_at-high : goal.returns-else-digit_at-high
returns-else-digit_at-high t c =
    let a = c.args in
    let e = between-other a.low.now a.high.now a.at c.digit_at.result c.if-at-high.false c.digit_at.ensures.value c.if-digit_at-high.false in
    instead c.push_midpoint_apart.new.draft.items a.draft.now.items _ _ c.push_midpoint_apart.ensures e
