use Rattle.canvas_line.specs.Seats.{GoesOn}
use Rattle.canvas_keep.proofs.keeper.Keeper.rested.Given as goal

abbrev pub invariant-loop : goal.invariant-loop
invariant-loop g l =
    (goal.iterator-loop g).can_next l.iterator' ×
    (goal.iterator-loop g).is_finite l.iterator' ×
    GoesOn l.fn.self.line l.keeper.line
