use Rattle.std.proofs.Common.{◌≡◌, ◌*◌, ◌+◌, ◌-◌, ◌≤◌, drop, map, take}
use Rattle.canvas_plane.specs.Motion.{carry}
use Rattle.canvas_record.specs.Picture.{answer_of, first_answer}
use Rattle.canvas_doc.proofs.editing.Placements.{shape_of}
use Rattle.canvas_doc.proofs.colour.+walk.Given as goal

abbrev pub decreases-answer_among : goal.decreases-answer_among
decreases-answer_among l = 2 * l.levels

abbrev pub decreases-answer_of : goal.decreases-answer_of
decreases-answer_of l = 2 * l.levels + 1

abbrev pub invariant-answer_among-siblings : goal.invariant-answer_among-siblings
invariant-answer_among-siblings l = record {
  reader : l.reader ≡ l.initial.reader;
  from : l.start ≤ l.slot;
  upto : l.slot ≤ l.end;
  answers : first_answer (answer_of (l.levels - 1) l.document.records (carry l.out) l.at.x l.at.y) (take (l.end - l.slot) (drop l.slot (map shape_of l.initial.reader)))
      ≡ first_answer (answer_of (l.levels - 1) l.document.records (carry l.out) l.at.x l.at.y) (take (l.end - l.start) (drop l.start (map shape_of l.initial.reader)));
}

abbrev pub decreases-answer_among-siblings : goal.decreases-answer_among-siblings
decreases-answer_among-siblings l = l.end - l.slot
