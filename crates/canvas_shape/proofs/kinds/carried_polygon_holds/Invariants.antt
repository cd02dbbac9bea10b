use Rattle.std.proofs.Common.{◌≡◌, ◌≤◌, ◌^◌, drop}
use Rattle.std.specs.Prelude.{map}
use Rattle.canvas_plane.specs.Motion.{carry, not_same, size_of}
use Rattle.canvas_shape.specs.Edges.{is_odd_along}
use Rattle.canvas_shape.proofs.kinds.carried_polygon_holds.Given as goal

abbrev pub invariant-loop-point : goal.invariant-loop-point
invariant-loop-point l = record {
  counted : not_same l.inside (is_odd_along l.from (drop l.point-index (map (carry l.page) l.points)) l.x l.y) ≡ is_odd_along l.initial.from (map (carry l.page) l.points) l.x l.y;
  near : size_of l.from ≤ 2 ^ 27;
}
