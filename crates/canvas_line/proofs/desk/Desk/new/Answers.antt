use Rattle.std.proofs.Common.{ap, sym, ◌∙◌, subst, rules}
use Rattle.left_right.specs.Sides.{view as seat_view}
use Rattle.canvas_line.specs.Rule.{Knows}
use Rattle.canvas_line.proofs.desk.Desk.new.Goals as goal

pub invariant_of-result : goal.invariant_of-result
invariant_of-result g c =
    let line = g.B.Lines.line c.args.name in
    let view = subst (λ w. Knows (seat_view w.desk.place) line) (sym c.new_unchecked.ensures) c.requires.view in
    (view, ap (λ w. w.desk.shown.value.facts) c.new_unchecked.ensures ∙ c.requires.facts.0, c.requires.facts.1, c.requires.facts.2, search rules)
