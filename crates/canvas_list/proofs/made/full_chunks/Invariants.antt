use Rattle.std.proofs.Common.{◌≡◌, ◌<◌, ◌++◌, length}
use Rattle.canvas_list.proofs.made.full_chunks.Given as goal

abbrev pub invariant-loop-item : goal.invariant-loop-item
invariant-loop-item g l = record {
  same : l.list ++ l.fresh.items ≡ l.yielded;
  room : length l.fresh.items < l.sizes.per_chunk;
}
