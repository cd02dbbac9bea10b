use Rattle.std.proofs.Common.{◌≡◌, ◌++◌, take}
use Rattle.canvas_list.specs.Chunks.{joined, IsTable}
use Rattle.canvas_list.proofs.table.Table.and_all.Given as goal

abbrev pub invariant-loop-part : goal.invariant-loop-part
invariant-loop-part g l = record {
  table : IsTable l.parts.items l.count;
  list : joined l.parts.items ≡ l.fn.self ++ joined (take l.part-index l.more);
}
