use Rattle.std.proofs.lemmas.Result.{on_ok_weaker}
use Rattle.std.proofs.lemmas.List.{take_all}
use Rattle.canvas_saved.specs.SavedText.{record_text}
use Rattle.canvas_json.proofs.Lists.{next-item, list-more, list-end, OnOk-any}
use Rattle.canvas_saved.proofs.Opens.{kept-more}
use Rattle.canvas_saved.proofs.saving.push_records.Goals as goal

pub loop-shape-preserved : goal.loop-shape-preserved
loop-shape-preserved c = record {
  text = list-more (λ r. record_text r.now) c.args.records.now c.loop-shape.shape-index c.shape-item.result c.loop-shape.later c.loop-shape.out.items c.push_comma.new.out.items
      c.push_record.new.out.items _ (next-item c.args.records.now c.loop-shape.shape-index c.shape-item.result c.loop-shape-test.true c.shape-item.is)
      c.in_ok-push_comma.ensures c.in_ok-push_record.ensures.text c.loop-shape.invariant.text;
  kept = kept-more c.args.records.now c.loop-shape.shape-index c.shape-item.result c.loop-shape-test.true c.shape-item.is c.loop-shape.invariant.kept c.in_ok-push_record.ensures.kept;
}

pub returns-clause-text : goal.returns-clause-text
returns-clause-text c =
    on_ok_weaker _ (λ close. list-end (λ r. record_text r.now) c.args.records.now c.loop-shape.shape-index c.loop-shape.later c.loop-shape.out.items c.push_text.new.out.items _
    c.loop-shape-test.false close c.loop-shape.invariant.text) c.push_text.ensures

pub returns-clause-kept : goal.returns-clause-kept
returns-clause-kept c =
    OnOk-any _ _ (rw (take_all _ c.args.records.now c.loop-shape-test.false) at c.loop-shape.invariant.kept)
