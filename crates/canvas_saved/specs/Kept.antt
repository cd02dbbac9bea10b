-- Records that are read as they were written.
use Rattle.canvas_record.specs.declared.records.Record.{Record}
use Rattle.canvas_json.specs.Fit.{FitsKind, FitsParent}

-- what the numbers and colours of a record are, so that the record is read as it is written
pub record IsKept (r : Record) : Type 0 where
  pub parent : FitsParent r.place.parent
  pub kind : FitsKind r.kind
