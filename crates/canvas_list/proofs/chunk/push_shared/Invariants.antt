use Rattle.std.proofs.Common.{◌≡◌, ◌++◌, take}
use Rattle.canvas_list.proofs.chunk.push_shared.Given as goal

abbrev pub invariant-loop-item : goal.invariant-loop-item
invariant-loop-item g l = l.items.items ≡ l.initial.items.items ++ take l.item-index l.more
