use Rattle.std.proofs.Common.{◌≡◌, ◌<◌, length, take}
use Rattle.canvas_list.specs.Chunks.{joined, AllBetween}
use Rattle.canvas_list.proofs.reader.part_meeting.Given as goal

abbrev pub invariant-loop-chunk : goal.invariant-loop-chunk
invariant-loop-chunk g l = record {
  start : l.start ≡ length (joined (take l.chunk l.parts));
  on : 0 < l.chunk → 0 < l.start;
  apart : AllBetween (g.T.Share.lies_apart l.sought) (joined l.parts) 0 l.start;
}
