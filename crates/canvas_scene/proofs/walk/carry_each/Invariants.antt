use Rattle.std.proofs.Common.{◌≤◌, ◌^◌, All}
use Rattle.canvas_plane.specs.Motion.{carry, size_of}
use Rattle.canvas_scene.proofs.Carrying.{AreCarried}
use Rattle.canvas_scene.proofs.walk.carry_each.Given as goal

abbrev pub invariant-loop-vertex : goal.invariant-loop-vertex
invariant-loop-vertex l = record {
  carried : AreCarried (carry l.page) l.vertex-index l.initial.vertices l.vertices;
  near : All (λ p. size_of p ≤ 2 ^ 27) l.vertices;
}
