use Rattle.std.proofs.Common.{◌≤◌, ◌<◌, ◌*◌, ◌+◌}
use Rattle.canvas_shape.proofs.ellipse.root.Given as goal

abbrev pub invariant-loop-size : goal.invariant-loop-size
invariant-loop-size l = record { some : 0 < l.size; bound : l.low + l.size ≤ l.most + 1; square : l.low * l.low ≤ l.n; next : l.n < (l.low + l.size) * (l.low + l.size) }

abbrev pub decreases-loop-size : goal.decreases-loop-size
decreases-loop-size l = l.size
