-- A box that holds the bounds of a shape's children.
use Rattle.std.proofs.Common.{◌≡◌, ℕ, ◌+◌, ◌-◌, ◌<◌, ◌≤◌, All, List, true, Some, sym, ap, subst, ◌∙◌, arith, filter, length, get_or, take, drop, length-drop, get_or-drop}
use Rattle.std.specs.List.{Contains, slice_get}
use Rattle.std.specs.List.Sorted.{IsStrictlySortedBy}
use Rattle.std.proofs.lemmas.List.{get_or-take, length-take}
use Rattle.std.proofs.lemmas.List.Elements.{All-get_or}
use Rattle.std.proofs.lemmas.Option.{get_or_from_slice_get, slice_get_within}
use Rattle.canvas_doc.specs.declared.bounds.Bounds.{Bounds}
use Rattle.canvas_record.specs.declared.records.Parent.{Parent}
use Rattle.canvas_record.specs.declared.records.Record.{Record}
use Rattle.canvas_doc.specs.Bounds.{IsWithinBounds}
use Rattle.canvas_record.specs.Children.{is_child}
use Rattle.canvas_doc.specs.PlaceOrder.{AreChildrenWithin, comes_first}
use Rattle.canvas_doc.proofs.places.Reordered.{places-once}
use Rattle.canvas_doc.proofs.boxes.Widened.{position-of}
use Rattle.canvas_doc.proofs.lists.SameMembers.{passing-has}

-- a child stands between the two ends of its parent's children, and so do its bounds
child-position : (p : Parent) (order : List Record) (low high j : ℕ) (s : Record) → IsStrictlySortedBy comes_first order → AreChildrenWithin p order low high → slice_get order j ≡ Some s → is_child p s ≡ true → (k : ℕ) × (k < high - low) × (j ≡ low + k)
child-position p order low high j s rising within e child =
    let part : List Record = take (high - low) (drop low order) in
    let there : Contains (filter (is_child p) order) s = passing-has (is_child p) order j s (slice_get_within order j s e) (get_or_from_slice_get order j s s e) child in
    let here : Contains part s = subst (λ l. Contains l s) (sym within.are) there in
    let bound : high ≤ length order = within.bound in
    let long : length part ≡ high - low = simp (length-take, length-drop) (omega arith) in
    let before : here.0 < high - low = omega (arith, here.1) in
    let is : get_or order (low + here.0) s ≡ s = sym (get_or-drop low order here.0 s) ∙ sym (get_or-take (high - low) (drop low order) here.0 s before) ∙ here.2 in
    (here.0, before, position-of order j (low + here.0) s (places-once order rising) e (omega arith) is)

-- what holds the boxes between the two ends holds those of the parent's children
pub children-hulled : (p : Parent) (order : List Record) (bounds : List Bounds) (low high : ℕ) (hull : Bounds) → IsStrictlySortedBy comes_first order → length bounds ≡ length order → AreChildrenWithin p order low high → All (λ b. IsWithinBounds b hull) (take (high - low) (drop low bounds))
    → (j : ℕ) (s : Record) (c : Bounds) → slice_get order j ≡ Some s → slice_get bounds j ≡ Some c → is_child p s ≡ true → IsWithinBounds c hull
children-hulled p order bounds low high hull rising same within held j s c e f child =
    let at = child-position p order low high j s rising within e child in
    let k : ℕ = at.0 in
    let before : k < high - low = at.1 in
    let place : j ≡ low + k = at.2 in
    let bound : high ≤ length order = within.bound in
    let long : length (take (high - low) (drop low bounds)) ≡ high - low = simp (length-take, length-drop) (omega arith) in
    let is : get_or (take (high - low) (drop low bounds)) k c ≡ c = get_or-take (high - low) (drop low bounds) k c before ∙ get_or-drop low bounds k c ∙ ap (λ n. get_or bounds n c) (sym place) ∙ get_or_from_slice_get bounds j c c f in
    subst (λ b. IsWithinBounds b hull) is (All-get_or (λ b. IsWithinBounds b hull) (take (high - low) (drop low bounds)) k c (omega arith) held)
