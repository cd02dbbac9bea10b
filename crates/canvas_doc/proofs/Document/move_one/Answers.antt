use Rattle.std.proofs.Common.{◌≡◌, ◌∙◌, ◌<◌, List, ap, arith, length, map, refl, subst, sym}
use Rattle.std.specs.List.{remove}
use Rattle.std.specs.Result.{is_ok}
use Rattle.std.proofs.lemmas.List.Edits.{length-remove}
use Rattle.canvas_doc.specs.declared.bounds.Bounds.{Bounds}
use Rattle.canvas_record.specs.declared.edits.Change.{Change}
use Rattle.canvas_record.specs.declared.records.Record.{Record}
use Rattle.canvas_doc.specs.Bounds.{HaveOneShape, IsHeldAbove}
use Rattle.canvas_record.specs.Contents.{Contents}
use Rattle.canvas_record.specs.Effect.{changed_by}
use Rattle.canvas_doc.specs.PlaceOrder.{IsKeptInOrder, IsPlaceOf}
use Rattle.canvas_doc.proofs.tree.OneChanged.{one-effect}
use Rattle.canvas_doc.proofs.places.Reordered.{seen-at}
use Rattle.canvas_doc.proofs.editing.InPlace.{moved-if, one-if, one-shape, one-well, widened-kept}
use Rattle.canvas_doc.proofs.Document.move_one.Goals as goal

pub returns-in_default : goal.returns-in_default
returns-in_default c =
    let ch : Change = c.args.change.now in
    let now : Contents = c.args.self.now in
    let kept : map (changed_by ch) now.records ≡ now.records =
    subst (λ (d : Contents). map (changed_by ch) d.records ≡ d.records) c.self.view_is c.in_default.ensures in
    ap (λ (l : List Record). record { records = l; next = now.next }) (sym kept) ∙ sym (one-effect ch now c.requires.one)

pub position_without-to-requires-clause-from : goal.position_without-to-requires-clause-from
position_without-to-requires-clause-from c =
    (seen-at c.self.inside.order.shapes c.self.inside.records c.self.inside.records c.in-Some.found.shape.now c.in-Some.found.shape.now c.in-Some.found.at c.position_in-from.result
    c.self.invariant.in_order refl c.in-Some.ensures.there.there c.in-Some.ensures.is refl c.position_in-from.ensures).within

pub held_bounds_at-requires-clause-at : goal.held_bounds_at-requires-clause-at
held_bounds_at-requires-clause-at c =
    (seen-at c.self.inside.order.shapes c.self.inside.records c.self.inside.records c.in-Some.found.shape.now c.in-Some.found.shape.now c.in-Some.found.at c.position_in-from.result
    c.self.invariant.in_order refl c.in-Some.ensures.there.there c.in-Some.ensures.is refl c.position_in-from.ensures).within

pub move_both-requires-clause-from : goal.move_both-requires-clause-from
move_both-requires-clause-from c =
    let within : c.position_in-from.result < length c.self.inside.order.shapes =
    (seen-at c.self.inside.order.shapes c.self.inside.records c.self.inside.records c.in-Some.found.shape.now c.in-Some.found.shape.now c.in-Some.found.at c.position_in-from.result
    c.self.invariant.in_order refl c.in-Some.ensures.there.there c.in-Some.ensures.is refl c.position_in-from.ensures).within in
    subst (λ (l : List Record). c.position_in-from.result < length l) (sym c.in_ok-bounds.ensures.shapes) within

pub move_both-requires-clause-to : goal.move_both-requires-clause-to
move_both-requires-clause-to c =
    let within : c.position_in-from.result < length c.self.inside.order.shapes =
    (seen-at c.self.inside.order.shapes c.self.inside.records c.self.inside.records c.in-Some.found.shape.now c.in-Some.found.shape.now c.in-Some.found.at c.position_in-from.result
    c.self.invariant.in_order refl c.in-Some.ensures.there.there c.in-Some.ensures.is refl c.position_in-from.ensures).within in
    let to : c.position_without-to.result < length c.self.inside.order.shapes = omega (arith, c.position_without-to.ensures.bound, length-remove c.self.inside.order.shapes c.position_in-from.result within) in
    subst (λ (l : List Record). c.position_without-to.result < length l) (sym c.in_ok-bounds.ensures.shapes) to

pub invariant_of-self : goal.invariant_of-self
invariant_of-self c =
    widened-kept (record { records = c.self.inside.records; next = c.self.inside.next }) c.self.inside.order.shapes c.self.inside.order.bounds c.self.invariant c.held_bounds_at.new.order.shapes c.held_bounds_at.new.order.bounds c.in_err-bounds.ensures.shapes c.in_err-bounds.ensures.bounds

pub invariant_of-self-2 : goal.invariant_of-self-2
invariant_of-self-2 c =
    let d : Contents = record { records = c.self.inside.records; next = c.self.inside.next } in
    let order : List Record = c.held_bounds_at.new.order.shapes in
    let bounds : List Bounds = c.held_bounds_at.new.order.bounds in
    let kept : IsKeptInOrder d order bounds = widened-kept d c.self.inside.order.shapes c.self.inside.order.bounds c.self.invariant order bounds c.in_ok-bounds.ensures.shapes c.in_ok-bounds.ensures.bounds in
    let r : Record = c.in-Some.found.shape.now in
    let s : Record = c.in_ok-new.new in
    let at = c.in-Some.found.at in
    let k = c.position_in-from.result in
    let to = c.position_without-to.result in
    let shape : HaveOneShape r s = one-shape c.args.change.now d c.args.self.now at r r s c.self.view_is c.requires.one c.in-Some.ensures.there c.in-Some.ensures.is refl c.in_ok-new.ensures c.requires.shape in
    moved-if d order bounds kept c.move_both.new.records c.move_both.new.self.shapes c.move_both.new.self.bounds (is_ok c.move_both.result) r s c.in_ok-bounds.bounds at k to
    c.move_both.ensures.other c.move_both.ensures.shapes c.move_both.ensures.bounds
    (one-well c.args.change.now d c.args.self.now at r r s c.self.view_is c.requires.one c.in-Some.ensures.there c.in-Some.ensures.is refl c.in_ok-new.ensures c.requires.fits.left)
    c.in-Some.ensures.there.there c.in-Some.ensures.is shape
    (subst (λ (l : List Record). IsPlaceOf r.place l k) (sym c.in_ok-bounds.ensures.shapes) c.position_in-from.ensures)
    (subst (λ (l : List Record). IsPlaceOf s.place (remove l k) to) (sym c.in_ok-bounds.ensures.shapes)
    (subst (λ (x : Record). IsPlaceOf x.place (remove c.self.inside.order.shapes k) to) c.value.ensures c.position_without-to.ensures))
    c.in_ok-bounds.ensures.there
    (subst (λ (x : Record). IsHeldAbove order bounds x c.in_ok-bounds.bounds) c.value-2.ensures c.in_ok-bounds.ensures.held)

pub returns : goal.returns
returns c =
    one-if c.args.change.now (record { records = c.self.inside.records; next = c.self.inside.next }) c.args.self.now c.in-Some.found.at c.in-Some.found.shape.now c.in-Some.found.shape.now c.in_ok-new.new
    c.self.view_is c.requires.one c.in-Some.ensures.there c.in-Some.ensures.is refl c.in_ok-new.ensures (is_ok c.move_both.result) c.move_both.new.records
    c.move_both.ensures.other
