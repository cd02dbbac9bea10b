use Rattle.std.proofs.Common.{◌≡◌, drop}
use Rattle.std.specs.Prelude.{map}
use Rattle.canvas_plane.specs.Motion.{carry}
use Rattle.canvas_shape.specs.Bounds.{grown_along}
use Rattle.canvas_doc.proofs.damage.carried_bounds.Given as goal

abbrev pub invariant-loop-point : goal.invariant-loop-point
invariant-loop-point l = grown_along l.bounds (drop l.point-index (map (carry l.page) l.points)) ≡ grown_along l.initial.bounds (map (carry l.page) l.points)
