-- A sort by place puts records with places of their own in strict order.
use Rattle.std.proofs.Common.{◌≡◌, List, [], ◌∷◌, Bool, true, false, refl, sym, ap, ◌∙◌, arith, inl, inr, get_or}
use Rattle.std.specs.List.{AllByRecursion, Contains, IsDistinct}
use Rattle.std.specs.List.Sorted.{IsPermutation, IsSortedBy}
use Rattle.std.specs.declared.cmp.Ordering.{Ordering}
use Rattle.std.specs.declared.cmp.Ordering.TheVariants.{Less, Equal, Greater}
use Rattle.std.specs.Cmp.Lexicographic.{slice_cmp}
use Rattle.std.specs.Ordering.{is_eq, is_lt, nat_cmp, ordering_reverse, ordering_then}
use Rattle.std.proofs.lemmas.Bool.{cases_Bool}
use Rattle.std.proofs.lemmas.List.Elements.{All-contains_itself, Contains-get_or}
use Rattle.std.proofs.lemmas.List.Sorted.{All-permutation, Contains-permutation, length_permutation, ranks_by, sorted_far}
use Rattle.std.proofs.lemmas.Map.Keys.{IsDistinct-IsPermutation, apart_from_distinct}
use Rattle.std.proofs.lemmas.Map.Lookups.{exact_bytes}
use Rattle.canvas_record.specs.declared.records.Record.{Record}
use Rattle.canvas_doc.specs.PlaceOrder.{by_parent, comes_first, IsInPlaceOrder}
use Rattle.canvas_record.specs.Tree.{HavePlaces, IsElsewhere}
use Rattle.canvas_doc.proofs.places.ByPlace.{comes_first-total, sorted-from}
use Rattle.canvas_doc.proofs.places.Placed.{holder-eq}

-- whether two records have one place
abbrev have_one_place : Record → Record → Bool
have_one_place r s = is_eq (comes_first s r)

eq-reverse : (o : Ordering) → is_eq (ordering_reverse o) ≡ is_eq o
eq-reverse Less = refl
eq-reverse Equal = refl
eq-reverse Greater = refl

one_place-flips : (r s : Record) → have_one_place r s ≡ have_one_place s r
one_place-flips r s = ap is_eq (comes_first-total.antisymm s r) ∙ eq-reverse (comes_first r s)

both-equal : (a b : Ordering) → is_eq (ordering_then a b) ≡ true → (a ≡ Equal) × (b ≡ Equal)
both-equal Less b h = cc
both-equal Equal Less h = cc
both-equal Equal Equal h = (refl, refl)
both-equal Equal Greater h = cc
both-equal Greater b h = cc

elsewhere : (r s : Record) → IsElsewhere r s → have_one_place r s ≡ false
elsewhere r s h = elim (cases_Bool (have_one_place r s)) [
  | inl t ↦ (let same = both-equal (by_parent s.place.parent r.place.parent) (slice_cmp nat_cmp r.place.index s.place.index) t in
      absurd (h (sym (holder-eq s.place.parent r.place.parent) ∙ ap is_eq same.0) (sym (exact_bytes r.place.index s.place.index same.1))))
  | inr f ↦ f
]

all-elsewhere : (r : Record) (rs : List Record) → AllByRecursion (IsElsewhere r) rs → AllByRecursion (λ s. have_one_place r s ≡ false) rs
all-elsewhere r [] h = tt
all-elsewhere r (s ∷ rs) h = (elsewhere r s h.0, all-elsewhere r rs h.1)

places-distinct : (rs : List Record) → HavePlaces rs → IsDistinct have_one_place rs
unfolding IsDistinct
places-distinct [] h = tt
places-distinct (r ∷ rs) h = (all-elsewhere r rs h.0, places-distinct rs h.1)

not-behind : (o : Ordering) → is_lt o ≡ false → is_eq o ≡ false → ordering_reverse o ≡ Less
not-behind Less h k = cc
not-behind Equal h k = cc
not-behind Greater h k = refl

-- such a sort of all records is their order by place
pub sorted-in_order : (order rs : List Record) → HavePlaces rs → IsPermutation rs order → IsSortedBy (λ r s. is_lt (comes_first r s)) order → IsInPlaceOrder order rs
sorted-in_order order rs h p s =
    let distinct : IsDistinct have_one_place order = IsDistinct-IsPermutation have_one_place one_place-flips rs order p (places-distinct rs h) in
    record {
      long = length_permutation rs order p;
      listed = All-permutation (Contains rs) rs order p (All-contains_itself rs);
      complete = λ i d l. Contains-permutation rs order (get_or rs i d) p (Contains-get_or rs i d l);
      rising = sorted-from order (λ i j d l m.
          let first : Record = get_or order i d in
          let later : Record = get_or order j d in
          comes_first-total.antisymm first later
          ∙ not-behind (comes_first later first) (sorted_far (λ a b. is_lt (comes_first a b)) (ranks_by comes_first-total (λ (r : Record). r)) order s i j d (omega arith) m) (apart_from_distinct have_one_place order i j d distinct l m));
    }
