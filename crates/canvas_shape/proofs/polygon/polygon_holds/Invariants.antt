use Rattle.std.proofs.Common.{◌≡◌, ◌≤◌, ◌^◌, drop}
use Rattle.canvas_plane.specs.Motion.{not_same, size_of}
use Rattle.canvas_shape.specs.Edges.{is_odd_along}
use Rattle.canvas_shape.proofs.polygon.polygon_holds.Given as goal

abbrev pub invariant-loop-to : goal.invariant-loop-to
invariant-loop-to l = record {
  counted : not_same l.inside (is_odd_along l.from (drop l.to-index l.points) l.x l.y) ≡ is_odd_along l.initial.from l.points l.x l.y;
  near : size_of l.from ≤ 2 ^ 27;
}
