use Rattle.std.proofs.Common.{All, take}
use Rattle.canvas_list.specs.Chunks.{joined}
use Rattle.canvas_list.proofs.part.summed_parts.Given as goal

abbrev pub invariant-loop-part : goal.invariant-loop-part
invariant-loop-part g l = record {
  items : All (g.T.Share.covers l.summary) (joined (take l.part-index l.parts));
  other : (item : g.row.T.Denot) → g.T.Share.covers l.other item → g.T.Share.covers l.summary item;
}
