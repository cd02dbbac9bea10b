use Rattle.std.proofs.Common.{◌≡◌, drop}
use Rattle.canvas_shape.specs.Bounds.{grown_along}
use Rattle.canvas_shape.proofs.polygon.bounds.Given as goal

abbrev pub invariant-loop-point : goal.invariant-loop-point
invariant-loop-point l = grown_along l.bounds (drop l.point-index l.points) ≡ grown_along l.initial.bounds l.points
