use Rattle.std.proofs.Common.{◌≡◌, ◌≤◌, ◌^◌, ℤ, ◌≤ℤ◌, ◌<ℤ◌, drop}
use Rattle.canvas_plane.specs.Motion.{not_same, size_of}
use Rattle.canvas_shape.specs.Edges.{is_odd_along}
use Rattle.canvas_shape.specs.Cuts.{is_odd_above, AreWithin}
use Rattle.canvas_shape.proofs.polygon.collect.Given as goal

abbrev pub invariant-loop-to : goal.invariant-loop-to
invariant-loop-to l = record {
  counted : (x : ℤ) → l.row.left ≤ℤ x → x <ℤ l.row.right → not_same (is_odd_above l.row.left l.cuts.items x) (is_odd_along l.from (drop l.to-index l.points) x l.row.y) ≡ is_odd_along l.initial.from l.points x l.row.y;
  inside : AreWithin l.row.left l.row.right l.cuts.items;
  near : size_of l.from ≤ 2 ^ 27;
}
