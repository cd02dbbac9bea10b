use Rattle.std.proofs.Common.{◌≤◌}
use Rattle.canvas_paint.proofs.worth.cost_of_edges.Given as goal

abbrev pub invariant-loop-to : goal.invariant-loop-to
invariant-loop-to l = l.from ≤ 256
