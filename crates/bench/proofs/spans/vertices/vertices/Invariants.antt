use Rattle.std.proofs.Common.{◌≤◌, ◌^◌, All, length}
use Rattle.canvas_plane.specs.Motion.{size_of}
use Rattle.bench.proofs.spans.vertices.vertices.Given as goal

abbrev pub invariant-loop-k : goal.invariant-loop-k
invariant-loop-k l = record {
  some : l.k ≤ length l.points.items;
  near : All (λ p. size_of p ≤ 2 ^ 27) l.points.items;
}
