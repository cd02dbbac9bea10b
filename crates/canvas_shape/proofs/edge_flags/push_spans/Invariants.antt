use Rattle.std.proofs.Common.{◌≡◌, ◌≤◌, ◌-◌, ◌*◌, ◌++◌, length, take}
use Rattle.canvas_shape.specs.Cuts.{spans_of}
use Rattle.canvas_shape.specs.Flags.{cuts_behind, flag, is_held}
use Rattle.canvas_shape.proofs.edge_flags.push_spans.Given as goal

abbrev pub invariant-loop-k : goal.invariant-loop-k
invariant-loop-k l = record {
  placed : l.out.items ++ spans_of l.row.left l.reached.inside l.reached.place (cuts_behind l.width (flag l.flags.words) (64 * l.k) (256 - 64 * l.k)) ≡ l.initial.out.items ++ spans_of l.row.left (is_held l.flags.words 0) 0 (cuts_behind l.width (flag l.flags.words) 0 256);
  place : l.reached.place ≤ l.width;
  kept : take (length l.initial.out.items) l.out.items ≡ l.initial.out.items;
}
