use Rattle.std.proofs.Common.{rules, All, ◌≡◌, ◌∙◌, ◌<◌, ◌≤◌, ◌^◌, List, None, length, subst, sym}
use Rattle.canvas_key.specs.Text.{IsKey}
use Rattle.canvas_record.specs.declared.records.Record.{Record}
use Rattle.canvas_record.specs.Contents.{IsWellFormed, most_records}
use Rattle.canvas_record.specs.Restored.{record_fault, tree_fault}
use Rattle.canvas_doc.proofs.restoring.Saved.{restoration_of-same}
use Rattle.canvas_doc.proofs.restoring.RestoredWell.{length-by_id, restores-well}
use Rattle.canvas_doc.proofs.Document.restore.Goals as goal

pub shared-requires : goal.shared-requires
shared-requires c =
    subst (λ (rs : List Record). length rs ≤ most_records) (sym c.in_ok-by_id.ensures) (rw length-by_id c.requires.few)

pub of_sorted-requires : goal.of_sorted-requires
of_sorted-requires c =
    let fits : c.args.next < 2 ^ 32 = c.ranges.next.fits in
    let none : c.in_ok-position.field-0 ≡ None = search rules in
    let keys : All (λ (r : Record). IsKey r.place.index) c.args.records.items = subst (All (λ (r : Record). IsKey r.place.index)) c.deref-2.ensures.value (c.in_ok-position.ensures.keys none) in
    let records : record_fault c.args.next c.args.records.items ≡ None = search rules in
    let tree : tree_fault c.args.records.items ≡ None = search rules in
    subst (λ rs. IsWellFormed (record { records = rs; next = c.args.next })) (sym (c.in_ok-records.ensures ∙ c.in_ok-by_id.ensures))
    (restores-well c.args.records.items c.args.next c.requires.next fits c.requires.few keys records tree)

pub returns-in-Some-clause-again : goal.returns-in-Some-clause-again
returns-in-Some-clause-again c = restoration_of-same (record { records = c.args.records.items; next = c.args.next })

pub returns-in_err-position-clause-again : goal.returns-in_err-position-clause-again
returns-in_err-position-clause-again c = restoration_of-same (record { records = c.args.records.items; next = c.args.next })

pub returns-in-Some-2-clause-again : goal.returns-in-Some-2-clause-again
returns-in-Some-2-clause-again c = restoration_of-same (record { records = c.args.records.items; next = c.args.next })

pub returns-in_err-by_id-clause-again : goal.returns-in_err-by_id-clause-again
returns-in_err-by_id-clause-again c = restoration_of-same (record { records = c.args.records.items; next = c.args.next })

pub returns-in_err-records-clause-again : goal.returns-in_err-records-clause-again
returns-in_err-records-clause-again c = restoration_of-same (record { records = c.args.records.items; next = c.args.next })

pub returns-clause-again : goal.returns-clause-again
returns-clause-again c = restoration_of-same (record { records = c.args.records.items; next = c.args.next })

pub returns-in_err-document-clause-again : goal.returns-in_err-document-clause-again
returns-in_err-document-clause-again c = restoration_of-same (record { records = c.args.records.items; next = c.args.next })
