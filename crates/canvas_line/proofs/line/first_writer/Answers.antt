use Rattle.std.proofs.Common.{◌≡◌, MatchBool, ap, sym, ◌∙◌, subst}
use Rattle.left_right.specs.Sides.{view as seat_view}
use Rattle.canvas_line.specs.Rule.{Knows}
use Rattle.canvas_line.specs.Standing.{Shown}
use Rattle.canvas_line.specs.Trails.{Facts}
use Rattle.canvas_line.proofs.Turns.{starts}
use Rattle.canvas_line.proofs.line.first_writer.Goals as goal

-- the published value has the facts of the opening version
pub returns-clause-view : goal.returns-clause-view
returns-clause-view g c =
    let w = seat_view c.publish-writer.result.0.desk.place in
    let next = c.in_ok-third.third in
    let known = subst (λ b. MatchBool b (Knows w next.facts) (Unit {0})) c.if-not-done.false c.publish-writer.ensures.known in
    subst (λ (f : Facts). Knows w f) (ap (λ (s : Shown). s.facts) c.in_ok-third.ensures ∙ c.in_ok-first.ensures.facts) known

pub new-requires-clause-alike : goal.new-requires-clause-alike
new-requires-clause-alike g c = sym c.in_ok-second.ensures

pub new-requires-clause-rule : goal.new-requires-clause-rule
new-requires-clause-rule g c = starts c.in_ok-first.first

-- what is published is the third copy
pub returns-clause-changes : goal.returns-clause-changes
returns-clause-changes g c =
    let shown = c.publish-writer.result.0.desk.shown.value in
    let value = subst (λ b. MatchBool b (shown ≡ c.in_ok-third.third) (shown ≡ c.in_ok-writer.writer.desk.shown.value)) c.if-not-done.false c.publish-writer.ensures.value in
    ap (λ (s : Shown). s.changes) (value ∙ c.in_ok-third.ensures) ∙ c.in_ok-first.ensures.changes

pub returns-clause-facts : goal.returns-clause-facts
returns-clause-facts g c =
    let shown = c.publish-writer.result.0.desk.shown.value in
    let value = subst (λ b. MatchBool b (shown ≡ c.in_ok-third.third) (shown ≡ c.in_ok-writer.writer.desk.shown.value)) c.if-not-done.false c.publish-writer.ensures.value in
    ap (λ (s : Shown). s.facts) (value ∙ c.in_ok-third.ensures) ∙ c.in_ok-first.ensures.facts

pub publish-writer-requires : goal.publish-writer-requires
publish-writer-requires g c = ap (λ (s : Shown). s.facts) (c.in_ok-third.ensures ∙ sym c.in_ok-writer.ensures.0)
