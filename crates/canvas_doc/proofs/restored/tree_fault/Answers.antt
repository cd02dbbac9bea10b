use Rattle.std.proofs.Common.{◌≡◌, ◌∙◌, false, true, length, refl, sym, subst, take}
use Rattle.std.specs.List.{list_any}
use Rattle.std.proofs.lemmas.List.Elements.{All-nil, All-more}
use Rattle.std.proofs.lemmas.Option.{slice_get_read}
use Rattle.canvas_key.specs.Text.{IsKey}
use Rattle.canvas_record.specs.declared.records.Record.{Record}
use Rattle.canvas_doc.specs.Listed.{has_place}
use Rattle.canvas_record.specs.Restored.{is_misplaced, same_place}
use Rattle.canvas_doc.proofs.places.Placed.{none-placed}
use Rattle.canvas_doc.proofs.restoring.Misplaced.{fault-here, fault-later, places-more, misplaced-repeats, misplaced-hangs, misplaced-taken, well-placed, taken-from, free-from}
use Rattle.canvas_doc.proofs.restored.tree_fault.Goals as goal
use Rattle.canvas_doc.proofs.restored.tree_fault.Goals.{then-repeats_id-via-then-repeats_id, then-repeats_id-via-else-repeats_id+then-not-hangs_in, then-repeats_id-via-else-repeats_id+else-not-hangs_in+in_ok-takes_place+then-not-branch}

pub loop-position-init : goal.loop-position-init
loop-position-init c = record { fault = refl; keys = All-nil (λ (r : Record). IsKey r.place.index); places = λ r. none-placed c.new-places.result r c.new-places.ensures.empty }

pub loop-position-preserved : goal.loop-position-preserved
loop-position-preserved c =
    let all = c.args.records.now in
    let i = c.loop-position.position in
    let r = c.index-records-position.result in
    let kept = c.loop-position.invariant in
    let free : list_any (same_place r) (take i all) ≡ false =
    free-from (has_place c.loop-position.places r) (list_any (same_place r) (take i all)) c.in_ok-takes_place.field-0 c.in_ok-takes_place.ensures.free (kept.places r) c.if-not-branch.false in
    let placed : is_misplaced all (take i all) r ≡ false = well-placed all (take i all) r (sym c.repeats_id.ensures ∙ c.if-repeats_id.false) (sym c.hangs_in.ensures ∙ c.if-not-hangs_in.false) free in
    record {
      fault = sym (fault-later all i r c.loop-position-test.true c.index-records-position.is placed) ∙ kept.fault;
      keys = All-more (λ (r : Record). IsKey r.place.index) all i r c.loop-position-test.true kept.keys (subst (λ (x : Record). IsKey x.place.index) c.index-records-position.is c.takes_place.ensures.key);
      places = λ s. c.in_ok-takes_place.ensures.after s ∙ places-more all i r s (has_place c.loop-position.places s) c.loop-position-test.true c.index-records-position.is (kept.places s);
    }

pub returns-then-repeats_id-clause-value : goal.returns-then-repeats_id-clause-value
returns-then-repeats_id-clause-value c =
    let all = c.args.records.now in
    let i = c.loop-position.position in
    let r = c.index-records-position.result in
    let kept = c.loop-position.invariant in
    let here = λ (m : is_misplaced all (take i all) r ≡ true). sym (fault-here all i r c.loop-position-test.true c.index-records-position.is m) ∙ kept.fault in
    elim c.then-repeats_id.branch [
      | then-repeats_id-via-then-repeats_id w ↦ here (misplaced-repeats all (take i all) r (sym c.repeats_id.ensures ∙ w.if-repeats_id.true))
      | then-repeats_id-via-else-repeats_id+then-not-hangs_in w ↦ here (misplaced-hangs all (take i all) r (sym w.hangs_in.ensures ∙ w.if-not-hangs_in.true))
      | then-repeats_id-via-else-repeats_id+else-not-hangs_in+in_ok-takes_place+then-not-branch w ↦ here (misplaced-taken all (take i all) r
          (taken-from (has_place c.loop-position.places r) (list_any (same_place r) (take i all)) w.in_ok-takes_place.field-0 w.in_ok-takes_place.ensures.free (kept.places r) w.if-not-branch.true))
    ]

pub repeats_id-requires-clause-at : goal.repeats_id-requires-clause-at
repeats_id-requires-clause-at c = slice_get_read c.args.records.now (length c.args.records.now) c.loop-position.position c.index-records-position.result refl c.loop-position-test.true c.index-records-position.is
