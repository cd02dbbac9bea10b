use Rattle.std.proofs.Common.{[], ap, sym, ◌++◌, ◌∙◌, ◌∷◌}
use Rattle.std.proofs.lemmas.List.{at_drop_all}
use Rattle.canvas_key.specs.Middle.{midpoint_above}
use Rattle.canvas_key.proofs.Apart.{above-far, above-near, after}
use Rattle.canvas_key.proofs.middle.+push_midpoint_above.Goals as goal

pub returns-then-at-low : goal.returns-then-at-low
returns-then-at-low t c =
    let a = c.args in
    c.push.ensures.items ∙ ap (λ d. a.draft.now.items ++ d ∷ []) c.middle_digit.ensures ∙ ap (λ x. a.draft.now.items ++ x) (sym (at_drop_all midpoint_above a.low.now a.at c.if-at-low.true))

pub returns-then-value-lt61 : goal.returns-then-value-lt61
returns-then-value-lt61 t c =
    let a = c.args in
    c.push-then-value-lt61.ensures.items ∙ ap (λ x. a.draft.now.items ++ x) (sym (above-far a.low.now a.at c.digit_value-value.result c.middle_digit-then-value-lt61.result c.if-at-low.false c.digit_value-value.ensures.value c.if-value-lt61.true c.middle_digit-then-value-lt61.ensures))

pub returns-else-value-lt61 : goal.returns-else-value-lt61
returns-else-value-lt61 t c =
    let a = c.args in
    after _ _ _ _ _ c.push-else-value-lt61.ensures.items c.push_midpoint_above.ensures ∙ ap (λ x. a.draft.now.items ++ x) (sym (above-near a.low.now a.at c.digit_value-value.result c.if-at-low.false c.digit_value-value.ensures.value c.if-value-lt61.false))
