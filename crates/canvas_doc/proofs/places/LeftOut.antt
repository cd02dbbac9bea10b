-- Where a place lies in the order once a record is left out of it.
use Rattle.std.proofs.Common.{◌≡◌, ℕ, ◌<◌, ◌≤◌, ◌+◌, ◌-◌, List, Bool, nat_lt, ap, ◌∙◌, arith, inl, inr, length}
use Rattle.std.specs.List.{remove}
use Rattle.std.specs.Ordering.{is_lt}
use Rattle.std.proofs.lemmas.Bool.{cases_Bool}
use Rattle.std.proofs.lemmas.Bool.Decides.{nat_tests}
use Rattle.std.proofs.lemmas.List.{get_or-drop, get_or-take, length-drop, length-take-le}
use Rattle.std.proofs.lemmas.List.Edits.{get_or-remove_above, get_or-remove_below, length-remove}
use Rattle.canvas_record.specs.declared.records.Place.{Place}
use Rattle.canvas_record.specs.declared.records.Record.{Record}
use Rattle.canvas_doc.specs.PlaceOrder.{by_place, IsPlaceOf}
use Rattle.canvas_doc.proofs.places.Reordered.{before-at, behind-at}

-- a record before the place
pub left-before : (place : Place) (order : List Record) (from at : ℕ) → IsPlaceOf place order at → from < at → IsPlaceOf place (remove order from) (at - 1)
left-before place order from at p l =
    let bound : at ≤ length order = p.bound in
    let within : from < length order = omega arith in
    let long : length (remove order from) + 1 ≡ length order = length-remove order from within in
    let is_before : Record → Bool = λ r. is_lt (by_place r.place place) in
    record {
      bound = omega arith;
      before = λ k d h.
          let short : k < at - 1 = omega (arith, length-take-le (at - 1) (remove order from) (omega arith)) in
          ap is_before (get_or-take (at - 1) (remove order from) k d short)
          ∙ elim (cases_Bool (nat_lt k from)) [
            | inl t ↦ ap is_before (get_or-remove_below order from d k (grind (arith, nat_tests)) within) ∙ ap is_lt (before-at place order at k d p (omega arith))
            | inr f ↦ ap is_before (get_or-remove_above order from d k (grind (arith, nat_tests)) within) ∙ ap is_lt (before-at place order at (k + 1) d p (omega arith))
          ];
      behind = λ k d h.
          let left : k < length (remove order from) - (at - 1) = omega (arith, length-drop (at - 1) (remove order from)) in
          ap is_before (get_or-drop (at - 1) (remove order from) k d)
          ∙ ap is_before (get_or-remove_above order from d (at - 1 + k) (omega arith) within)
          ∙ behind-at place order at (at - 1 + k + 1) d p (omega arith) (omega arith);
    }

-- a record that is not before the place
pub left-behind : (place : Place) (order : List Record) (from at : ℕ) → IsPlaceOf place order at → at ≤ from → from < length order → IsPlaceOf place (remove order from) at
left-behind place order from at p l within =
    let long : length (remove order from) + 1 ≡ length order = length-remove order from within in
    let is_before : Record → Bool = λ r. is_lt (by_place r.place place) in
    record {
      bound = omega arith;
      before = λ k d h.
          let short : k < at = omega (arith, length-take-le at (remove order from) (omega arith)) in
          ap is_before (get_or-take at (remove order from) k d short)
          ∙ ap is_before (get_or-remove_below order from d k (omega arith) within)
          ∙ ap is_lt (before-at place order at k d p short);
      behind = λ k d h.
          let left : k < length (remove order from) - at = omega (arith, length-drop at (remove order from)) in
          ap is_before (get_or-drop at (remove order from) k d)
          ∙ elim (cases_Bool (nat_lt (at + k) from)) [
            | inl t ↦ ap is_before (get_or-remove_below order from d (at + k) (grind (arith, nat_tests)) within) ∙ behind-at place order at (at + k) d p (omega arith) (omega arith)
            | inr f ↦ ap is_before (get_or-remove_above order from d (at + k) (grind (arith, nat_tests)) within) ∙ behind-at place order at (at + k + 1) d p (omega arith) (omega arith)
          ];
    }
