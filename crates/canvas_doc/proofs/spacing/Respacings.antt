-- A document after the children of a parent got new indexes, each of which is found in the list of records by id.
use Rattle.std.proofs.Common.{◌≡◌, ◌∙◌, ℕ, ℤ, ◌+◌, ◌-◌, ◌^◌, ◌<◌, ◌≤◌, List, ◌++◌, ap, arith, drop, filter, length, map, subst, sym, take}
use Rattle.std.specs.Option.{unwrap_or}
use Rattle.std.proofs.lemmas.List.{length-drop, length-map, length-take-le}
use Rattle.canvas_doc.specs.declared.bounds.Bounds.{Bounds}
use Rattle.canvas_record.specs.declared.records.Parent.{Parent}
use Rattle.canvas_record.specs.declared.records.Record.{Record}
use Rattle.canvas_doc.specs.Bounds.{AreBounds}
use Rattle.canvas_record.specs.Children.{is_child}
use Rattle.canvas_record.specs.Contents.{most_records, record_of, Contents, HaveIds, IsWellFormed}
use Rattle.canvas_record.specs.declared.edits.Change.{Change}
use Rattle.canvas_record.specs.declared.edits.Change.TheVariants.{Create, Move, Pose, Reshape, Show, Delete, Respace}
use Rattle.canvas_record.specs.Effect.{effect_of, respaced, SpacesOnly}
use Rattle.canvas_record.specs.Picture.{colour}
use Rattle.canvas_doc.specs.PlaceOrder.{AreChildrenWithin, IsInPlaceOrder, IsKeptInOrder}
use Rattle.canvas_doc.proofs.editing.Placements.{parts-whole}
use Rattle.canvas_doc.proofs.boxes.Rebounded.{respaced-bounds}
use Rattle.canvas_doc.proofs.spacing.Respaced.{colour-respaced, respaced-well}
use Rattle.canvas_doc.proofs.spacing.Respacing.{children-ids, each-respaced, order-respaced, respaced-order}

-- a document, and where the children of a parent stand in the order
pub record AreToBeRespaced (d : Contents) (order : List Record) (bounds : List Bounds) (p : Parent) (start end : ℕ) : Type 0 where
  pub kept : IsKeptInOrder d order bounds
  pub children : AreChildrenWithin p order start end

-- the children with their new indexes, and their bounds
pub record AreRespaced (order : List Record) (bounds : List Bounds) (p : Parent) (start end : ℕ) (shapes : List Record) (boxes : List Bounds) : Type 0 where
  pub shapes_are : shapes ≡ map (respaced p order) (filter (is_child p) order)
  pub boxes_are : boxes ≡ take (end - start) (drop start bounds)

module _ (d : Contents) (order : List Record) (bounds : List Bounds) (p : Parent) (start end : ℕ) (at : AreToBeRespaced d order bounds p start end) (shapes : List Record) (boxes : List Bounds) (are : AreRespaced order bounds p start end shapes boxes) where
  pub once : HaveIds shapes
  once = subst HaveIds (sym are.shapes_are) (children-ids p order d.records at.kept.well_formed.rising at.kept.in_order)

  -- the list of records by id, with the children in their places
  pub records-are : (records : List Record) → records ≡ map (λ r. unwrap_or (record_of r.id shapes) r) d.records → records ≡ map (respaced p d.records) d.records
  records-are records is =
      is
      ∙ ap (λ l. map (λ r. unwrap_or (record_of r.id l) r) d.records) are.shapes_are
      ∙ each-respaced p order d.records at.kept.well_formed.rising at.kept.well_formed.places at.kept.in_order

  pub kept-respaced : (records new : List Record) (boxes-new : List Bounds) → records ≡ map (λ r. unwrap_or (record_of r.id shapes) r) d.records → new ≡ take start order ++ shapes ++ drop end order → boxes-new ≡ take start bounds ++ boxes ++ drop end bounds
      → IsKeptInOrder (record d { records = records }) new boxes-new
  kept-respaced records new boxes-new is new-is boxes-is =
      let made : records ≡ map (respaced p d.records) d.records = records-are records is in
      let placed : new ≡ map (respaced p d.records) order =
      new-is ∙ ap (λ l. take start order ++ l ++ drop end order) are.shapes_are ∙ order-respaced p order d.records start end at.kept.well_formed.places at.kept.in_order at.children in
      let same : boxes-new ≡ bounds = boxes-is ∙ ap (λ l. take start bounds ++ l ++ drop end bounds) are.boxes_are ∙ parts-whole bounds start end at.children.from in
      record {
        well_formed = subst (λ l. IsWellFormed (record d { records = l })) (sym made) (respaced-well d at.kept.well_formed p);
        in_order = subst (λ l. IsInPlaceOrder l records) (sym placed) (subst (IsInPlaceOrder (map (respaced p d.records) order)) (sym made) (respaced-order p order d.records at.kept.well_formed.few at.kept.in_order));
        bounded = subst (AreBounds new) (sym same) (subst (λ l. AreBounds l bounds) (sym placed) (respaced-bounds order bounds p d.records at.kept.bounded));
      }

  -- as many as stand between the two positions
  many : length (filter (is_child p) order) ≡ end - start
  many =
      let bound : end ≤ length order = at.children.bound in
      ap length (sym at.children.are) ∙ length-take-le (end - start) (drop start order) (omega (arith, length-drop start order))

  pub shapes-many : length shapes ≡ end - start
  shapes-many = ap length are.shapes_are ∙ length-map (filter (is_child p) order) (respaced p order) ∙ many

  pub many-within : start + length shapes ≤ length order
  many-within =
      let from : start ≤ end = at.children.from in
      let bound : end ≤ length order = at.children.bound in
      omega (arith, from, bound, shapes-many)

  pub many-more : length order + length shapes < 2 ^ 32
  many-more =
      let few : length d.records ≤ most_records = at.kept.well_formed.few in
      let within : start + length shapes ≤ length order = many-within in
      omega (arith, few, within, at.kept.in_order.long)

-- a change that gives new indexes and nothing else changes no colour
pub spaces-only : (ch : Change) (d : Contents) → SpacesOnly ch → IsWellFormed (effect_of ch d) → (x y : ℤ) → colour (effect_of ch d).records x y ≡ colour d.records x y
spaces-only (Create id kind pose hidden place) d spaced well x y = absurd spaced
spaces-only (Move id place) d spaced well x y = absurd spaced
spaces-only (Pose id pose) d spaced well x y = absurd spaced
spaces-only (Reshape id kind) d spaced well x y = absurd spaced
spaces-only (Show id hidden) d spaced well x y = absurd spaced
spaces-only (Delete id) d spaced well x y = absurd spaced
spaces-only (Respace p) d spaced well x y =
    let few : length d.records ≤ most_records = subst (λ n. n ≤ most_records) (length-map d.records (respaced p d.records)) well.few in
    colour-respaced p d.records few x y
