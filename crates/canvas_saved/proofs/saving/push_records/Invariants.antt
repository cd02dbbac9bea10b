use Rattle.std.proofs.Common.{◌≡◌, ◌++◌, drop, false, take, All}
use Rattle.canvas_saved.specs.Kept.{IsKept}
use Rattle.canvas_json.specs.Texts.{list_text}
use Rattle.canvas_saved.specs.SavedText.{record_text}
use Rattle.canvas_saved.proofs.saving.push_records.Given as goal

abbrev pub invariant-loop-shape : goal.invariant-loop-shape
invariant-loop-shape l = record {
  text : l.out.items ++ list_text (λ r. record_text r.now) l.later (drop l.shape-index l.records) ≡ l.fn.out.items ++ list_text (λ r. record_text r.now) false l.records;
  kept : All (λ r. IsKept r.now) (take l.shape-index l.records);
}
