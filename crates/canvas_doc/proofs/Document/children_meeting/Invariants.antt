use Rattle.std.proofs.Common.{◌≡◌, ◌≤◌, ◌-◌, drop, map, take}
use Rattle.canvas_doc.proofs.boxes.InSight.{AreInSight}
use Rattle.canvas_doc.proofs.editing.Placements.{shape_of}
use Rattle.canvas_doc.proofs.siblings.Sorting.{record_of}
use Rattle.canvas_doc.proofs.Document.children_meeting.Given as goal

abbrev pub invariant-walk : goal.invariant-walk
invariant-walk g l = record {
  reader : l.reader ≡ l.initial.reader;
  from : l.start ≤ l.at;
  upto : l.at ≤ l.end;
  seen : AreInSight l.self.records l.out l.clip (map record_of l.seen.items) (take (l.at - l.start) (drop l.start (map shape_of l.initial.reader)));
}

abbrev pub decreases-walk : goal.decreases-walk
decreases-walk g l = l.end - l.at
