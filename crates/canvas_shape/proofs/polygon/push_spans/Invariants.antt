use Rattle.std.proofs.Common.{◌≡◌, ◌≤◌, pos, ◌+ℤ◌, ◌≤ℤ◌, drop, take, length, ◌++◌}
use Rattle.canvas_shape.specs.Cuts.{spans_of}
use Rattle.canvas_shape.proofs.polygon.push_spans.Given as goal

abbrev pub invariant-loop-cut : goal.invariant-loop-cut
invariant-loop-cut l = record {
  placed : l.out.items ++ spans_of l.row.left l.inside l.start (drop l.cut-index l.cuts) ≡ l.initial.out.items ++ spans_of l.row.left l.initial.inside 0 l.cuts;
  more : length l.initial.out.items ≤ length l.out.items;
  kept : take (length l.initial.out.items) l.out.items ≡ l.initial.out.items;
  start : (l.row.left +ℤ pos l.start) ≤ℤ l.row.right;
}
