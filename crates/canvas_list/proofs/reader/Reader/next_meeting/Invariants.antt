use Rattle.std.proofs.Common.{◌≡◌, ◌≤◌, ◌-◌}
use Rattle.canvas_list.specs.Chunks.{AllBetween}
use Rattle.canvas_list.proofs.reader.Reader.next_meeting.Given as goal

abbrev pub invariant-walk : goal.invariant-walk
invariant-walk g l = record {
  same : l.self ≡ l.initial.self;
  from : l.from ≤ l.at;
  apart : AllBetween (g.T.Share.lies_apart l.sought) l.self l.from l.at;
}

abbrev pub decreases-walk : goal.decreases-walk
decreases-walk g l = l.end - l.at
