use Rattle.canvas_list.specs.Chunks.{AllBetween}
use Rattle.canvas_list.proofs.reader.place_meeting.Given as goal

abbrev pub invariant-loop-place : goal.invariant-loop-place
invariant-loop-place g l = AllBetween (g.T.Share.lies_apart l.sought) l.items 0 l.place
