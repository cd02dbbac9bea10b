use Rattle.std.proofs.Common.{All, take}
use Rattle.canvas_list.proofs.chunk.summed_items.Given as goal

abbrev pub invariant-loop-item : goal.invariant-loop-item
invariant-loop-item g l = record {
  items : All (g.T.Share.covers l.summary) (take l.item-index l.items);
  other : (item : g.row.T.Denot) → g.T.Share.covers l.other item → g.T.Share.covers l.summary item;
}
