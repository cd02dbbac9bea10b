use Rattle.std.proofs.Common.{◌≡◌, All, take, drop}
use Rattle.std.specs.List.{list_any}
use Rattle.canvas_key.specs.Text.{IsKey}
use Rattle.canvas_record.specs.declared.records.Record.{Record}
use Rattle.canvas_doc.specs.Listed.{has_place}
use Rattle.canvas_record.specs.Restored.{tree_fault, tree_fault_after, same_place}
use Rattle.canvas_doc.proofs.restored.tree_fault.Given as goal

abbrev pub invariant-loop-position : goal.invariant-loop-position
invariant-loop-position l = record {
  fault : tree_fault_after l.records (take l.position l.records) (drop l.position l.records) ≡ tree_fault l.records;
  keys : All (λ (r : Record). IsKey r.place.index) (take l.position l.records);
  places : (r : Record) → has_place l.places r ≡ list_any (same_place r) (take l.position l.records);
}
