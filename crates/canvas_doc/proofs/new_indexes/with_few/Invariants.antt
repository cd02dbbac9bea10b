use Rattle.std.proofs.Common.{◌≡◌, map, take}
use Rattle.std.specs.Option.{unwrap_or}
use Rattle.canvas_record.specs.Contents.{record_of}
use Rattle.canvas_doc.proofs.editing.Placements.{shape_of}
use Rattle.canvas_doc.proofs.new_indexes.with_few.Given as goal

abbrev pub invariant-loop-other : goal.invariant-loop-other
invariant-loop-other l = l.all ≡ map (λ r. unwrap_or (record_of r.id (take l.other-index (map shape_of l.others))) r) l.records
