use Rattle.std.proofs.Common.{◌≡◌, ◌∙◌, List, ap, get_or, map, refl, subst, sym}
use Rattle.std.specs.Result.{is_ok}
use Rattle.canvas_doc.specs.declared.bounds.Bounds.{Bounds}
use Rattle.canvas_record.specs.declared.edits.Change.{Change}
use Rattle.canvas_record.specs.declared.records.Record.{Record}
use Rattle.canvas_doc.specs.Bounds.{IsHeldAbove}
use Rattle.canvas_record.specs.Contents.{Contents}
use Rattle.canvas_record.specs.Effect.{changed_by}
use Rattle.canvas_doc.specs.PlaceOrder.{IsKeptInOrder, IsPlaceOf}
use Rattle.canvas_record.specs.Tree.{IsInLimits}
use Rattle.canvas_doc.proofs.tree.OneChanged.{one-effect}
use Rattle.canvas_doc.proofs.boxes.Rebounded.{Suits}
use Rattle.canvas_doc.proofs.editing.InPlace.{one-if, one-limits, one-place, one-well, replaced-at, replaced-if, widened-kept}
use Rattle.canvas_doc.proofs.Document.replace_one.Goals as goal

pub returns-in_default : goal.returns-in_default
returns-in_default c =
    let ch : Change = c.args.change.now in
    let now : Contents = c.args.self.now in
    let kept : map (changed_by ch) now.records ≡ now.records =
    subst (λ (d : Contents). map (changed_by ch) d.records ≡ d.records) c.self.view_is c.in_default.ensures in
    ap (λ (l : List Record). record { records = l; next = now.next }) (sym kept) ∙ sym (one-effect ch now c.requires.one)

pub held_bounds_for-requires-clause-shape : goal.held_bounds_for-requires-clause-shape
held_bounds_for-requires-clause-shape c =
    subst IsInLimits (sym c.value-2.ensures)
    (one-limits c.args.change.now (record { records = c.self.inside.records; next = c.self.inside.next }) c.args.self.now c.in-Some.found.at c.in-Some.found.shape.now c.in-Some.found.shape.now c.in_ok-new.new
    c.self.view_is c.requires.one c.in-Some.ensures.there c.in-Some.ensures.is refl c.in_ok-new.ensures c.requires.fits.left)

pub replace_both-requires-clause-at : goal.replace_both-requires-clause-at
replace_both-requires-clause-at c =
    let d : Contents = record { records = c.self.inside.records; next = c.self.inside.next } in
    let order : List Record = c.held_bounds_for.new.order.shapes in
    let bounds : List Bounds = c.held_bounds_for.new.order.bounds in
    let kept : IsKeptInOrder d order bounds = widened-kept d c.self.inside.order.shapes c.self.inside.order.bounds c.self.invariant order bounds c.in_ok-bounds.ensures.shapes c.in_ok-bounds.ensures.bounds in
    let place : (get_or d.records c.in-Some.found.at c.in_ok-new.new).place ≡ c.in_ok-new.new.place =
    one-place c.args.change.now d c.args.self.now c.in-Some.found.at c.in-Some.found.shape.now c.in-Some.found.shape.now c.in_ok-new.new c.self.view_is c.requires.one c.in-Some.ensures.there c.in-Some.ensures.is refl c.in_ok-new.ensures c.requires.place in
    replaced-at d order bounds kept c.in_ok-new.new c.in-Some.found.at c.position_in-from.result c.in-Some.ensures.there.there place
    (subst (λ (l : List Record). IsPlaceOf c.in_ok-new.new.place l c.position_in-from.result) (sym c.in_ok-bounds.ensures.shapes)
    (subst (λ (x : Record). IsPlaceOf x.place c.self.inside.order.shapes c.position_in-from.result) c.value.ensures c.position_in-from.ensures))

pub invariant_of-self : goal.invariant_of-self
invariant_of-self c =
    widened-kept (record { records = c.self.inside.records; next = c.self.inside.next }) c.self.inside.order.shapes c.self.inside.order.bounds c.self.invariant c.held_bounds_for.new.order.shapes c.held_bounds_for.new.order.bounds c.in_err-bounds.ensures.shapes c.in_err-bounds.ensures.bounds

pub invariant_of-self-2 : goal.invariant_of-self-2
invariant_of-self-2 c =
    let d : Contents = record { records = c.self.inside.records; next = c.self.inside.next } in
    let order : List Record = c.held_bounds_for.new.order.shapes in
    let bounds : List Bounds = c.held_bounds_for.new.order.bounds in
    let kept : IsKeptInOrder d order bounds = widened-kept d c.self.inside.order.shapes c.self.inside.order.bounds c.self.invariant order bounds c.in_ok-bounds.ensures.shapes c.in_ok-bounds.ensures.bounds in
    let place : (get_or d.records c.in-Some.found.at c.in_ok-new.new).place ≡ c.in_ok-new.new.place =
    one-place c.args.change.now d c.args.self.now c.in-Some.found.at c.in-Some.found.shape.now c.in-Some.found.shape.now c.in_ok-new.new c.self.view_is c.requires.one c.in-Some.ensures.there c.in-Some.ensures.is refl c.in_ok-new.ensures c.requires.place in
    replaced-if d order bounds kept c.replace_both.new.records c.replace_both.new.self.shapes c.replace_both.new.self.bounds
    (is_ok c.replace_both.result) c.in_ok-new.new c.in_ok-bounds.bounds c.in-Some.found.at c.position_in-from.result
    c.replace_both.ensures.other c.replace_both.ensures.shapes c.replace_both.ensures.bounds
    (one-well c.args.change.now d c.args.self.now c.in-Some.found.at c.in-Some.found.shape.now c.in-Some.found.shape.now c.in_ok-new.new c.self.view_is c.requires.one c.in-Some.ensures.there c.in-Some.ensures.is refl c.in_ok-new.ensures c.requires.fits.left)
    c.in-Some.ensures.there.there place
    (subst (λ (l : List Record). IsPlaceOf c.in_ok-new.new.place l c.position_in-from.result) (sym c.in_ok-bounds.ensures.shapes)
    (subst (λ (x : Record). IsPlaceOf x.place c.self.inside.order.shapes c.position_in-from.result) c.value.ensures c.position_in-from.ensures))
    (subst (λ (x : Record). Suits order bounds x c.in_ok-bounds.bounds) c.value-2.ensures (record { own = c.in_ok-bounds.ensures.own; below = c.in_ok-bounds.ensures.below }))
    (subst (λ (x : Record). IsHeldAbove order bounds x c.in_ok-bounds.bounds) c.value-2.ensures c.in_ok-bounds.ensures.held)

pub returns : goal.returns
returns c =
    one-if c.args.change.now (record { records = c.self.inside.records; next = c.self.inside.next }) c.args.self.now c.in-Some.found.at c.in-Some.found.shape.now c.in-Some.found.shape.now c.in_ok-new.new
    c.self.view_is c.requires.one c.in-Some.ensures.there c.in-Some.ensures.is refl c.in_ok-new.ensures (is_ok c.replace_both.result) c.replace_both.new.records
    c.replace_both.ensures.other
