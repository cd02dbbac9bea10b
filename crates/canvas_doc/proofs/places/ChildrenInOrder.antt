-- The children of a parent, as the order by place lists them.
use Rattle.std.proofs.Common.{◌≡◌, ℕ, suc, ◌+◌, ◌-◌, ◌<◌, ◌≤◌, List, [], ◌∷◌, ◌++◌, true, sym, ap, ◌∙◌, arith, filter, length, get_or, take, drop, map, Bor, All, length-drop, get_or-drop}
use Rattle.std.specs.List.{Contains}
use Rattle.std.specs.List.Sorted.{IsStrictlySortedBy}
use Rattle.std.specs.declared.cmp.Ordering.{Ordering}
use Rattle.std.specs.declared.cmp.Ordering.TheVariants.{Less, Equal, Greater}
use Rattle.std.specs.Cmp.Lexicographic.{slice_cmp}
use Rattle.std.specs.Ordering.{is_eq, is_lt, nat_cmp, ordering_then}
use Rattle.std.proofs.lemmas.List.{drop_more, map-append, take_more}
use Rattle.std.proofs.lemmas.List.Elements.{All-contains, All-from_recursion, All-head, All-tail, filter_passes}
use Rattle.std.proofs.lemmas.List.Kept.{IsStrictlySortedBy-filter}
use Rattle.std.proofs.lemmas.List.Sorted.{All-permutation, Contains-permutation}
use Rattle.std.proofs.lemmas.Map.Keys.{IsDistinct-IsPermutation}
use Rattle.canvas_record.specs.declared.records.Parent.{Parent}
use Rattle.canvas_record.specs.declared.records.Record.{Record}
use Rattle.canvas_record.specs.Children.{children, front_first, is_child, is_in_front}
use Rattle.canvas_doc.specs.PlaceOrder.{by_parent, comes_first, IsInPlaceOrder}
use Rattle.canvas_record.specs.Tree.{HavePlaces}
use Rattle.canvas_doc.proofs.siblings.Fronts.{have-indexes, in_order, same_parent-both}
use Rattle.canvas_doc.proofs.places.Placed.{holder-eq}
use Rattle.canvas_doc.proofs.siblings.Sorting.{AreApart, apart-in_order, distinct-indexes, front_first-moves, is_level, level-flips, record_of, same-order}
use Rattle.canvas_doc.proofs.lists.SameMembers.{filter-members}

-- of two children of a parent the one that comes first is in front
index-first : (a b : Ordering) → is_eq a ≡ true → ordering_then a b ≡ Less → b ≡ Less
index-first Less b e h = cc
index-first Equal b e h = h
index-first Greater b e h = cc

pub first-in_front : (p : Parent) (r s : Record) → is_child p r ≡ true → is_child p s ≡ true → comes_first r s ≡ Less → is_in_front r s ≡ true
first-in_front p r s h k l =
    let alike : is_eq (by_parent r.place.parent s.place.parent) ≡ true = holder-eq r.place.parent s.place.parent ∙ same_parent-both r.place.parent s.place.parent p h k in
    ap is_lt (index-first (by_parent r.place.parent s.place.parent) (slice_cmp nat_cmp s.place.index r.place.index) alike l)

pub sorted-apart : (p : Parent) (rs : List Record) → All (λ r. is_child p r ≡ true) rs → IsStrictlySortedBy comes_first rs → AreApart rs
unfolding IsStrictlySortedBy
sorted-apart p [] h s = tt
sorted-apart p (r ∷ rs) h s =
    let all : All (λ s. is_child p s ≡ true) rs = All-tail (λ s. is_child p s ≡ true) r rs h in
    let first : All (λ s. comes_first r s ≡ Less) rs = All-from_recursion (λ s. comes_first r s ≡ Less) rs s.0 in
    (λ i d l. first-in_front p r (get_or rs i d) (All-head (λ s. is_child p s ≡ true) r rs h) (all i d l) (first i d l), sorted-apart p rs all s.1)

pub children-apart : (p : Parent) (rs : List Record) → HavePlaces rs → AreApart (children p rs)
children-apart p rs h =
    let kept : List Record = filter (is_child p) rs in
    let flips : (r s : Record) → is_level r s ≡ is_level s r = λ r s. level-flips (is_in_front r s) (is_in_front s r) in
    apart-in_order (front_first kept) (in_order kept) (IsDistinct-IsPermutation is_level flips kept (front_first kept) (front_first-moves kept) (distinct-indexes kept (have-indexes p rs h)))

-- what the order lists of a parent's children are its children, from front to back
pub children-are : (p : Parent) (order rs : List Record) → HavePlaces rs → IsInPlaceOrder order rs → filter (is_child p) order ≡ children p rs
children-are p order rs h o =
    let kept : List Record = filter (is_child p) rs in
    let listed : List Record = filter (is_child p) order in
    let within : All (Contains kept) listed = filter-members (is_child p) order rs o.listed in
    same-order listed (children p rs)
    (sorted-apart p listed (filter_passes (is_child p) order) (IsStrictlySortedBy-filter comes_first (is_child p) order o.rising))
    (children-apart p rs h)
    (λ i d l. Contains-permutation kept (children p rs) (get_or listed i d) (front_first-moves kept) (within i d l))
    (All-permutation (Contains listed) kept (children p rs) (front_first-moves kept) (filter-members (is_child p) rs order o.complete))

-- one more of the items from a position on
pub one-more : {A : Type 0} (order : List A) (start at : ℕ) (r d : A) → start ≤ at → at < length order → r ≡ get_or order at d → take (at + 1 - start) (drop start order) ≡ take (at - start) (drop start order) ++ r ∷ []
one-more order start at r d a b e =
    let more : at + 1 - start ≡ at - start + 1 = omega arith in
    let here : start + (at - start) ≡ at = omega arith in
    let long : at - start < length (drop start order) = simp length-drop (omega arith) in
    ap (λ n. take n (drop start order)) more
    ∙ take_more (drop start order) (at - start) d long
    ∙ ap (λ x. take (at - start) (drop start order) ++ x ∷ []) (get_or-drop start order (at - start) d ∙ ap (λ n. get_or order n d) here ∙ sym e)

-- the same of references to them
pub one-more-listed : (order : List Record) (start at : ℕ) (b : Bor Record) (d : Record) (before after : List (Bor Record)) → start ≤ at → at < length order → b.now ≡ get_or order at d → after ≡ before ++ b ∷ []
    → map record_of before ≡ take (at - start) (drop start order) → map record_of after ≡ take (at + 1 - start) (drop start order)
one-more-listed order start at b d before after l m e f h =
    ap (map record_of) f
    ∙ map-append record_of before (b ∷ [])
    ∙ ap (λ (rs : List Record). rs ++ b.now ∷ []) h
    ∙ sym (one-more order start at b.now d l m e)

-- the records from one position up to another, with the first of them apart
pub first-and-rest : (order : List Record) (at end : ℕ) (r d : Record) → at < end → end ≤ length order → r ≡ get_or order at d → take (end - at) (drop at order) ≡ r ∷ take (end - (at + 1)) (drop (at + 1) order)
first-and-rest order at end r d l b e =
    let more : end - at ≡ suc (end - (at + 1)) = omega arith in
    ap (λ n. take n (drop at order)) more
    ∙ ap (λ (rs : List Record). take (suc (end - (at + 1))) rs) (drop_more order at d (omega arith))
    ∙ ap (λ x. x ∷ take (end - (at + 1)) (drop (at + 1) order)) (sym e)

-- what holds of all records holds of all that the order lists
pub all-in_order : (P : Record → Type 0) (order rs : List Record) → IsInPlaceOrder order rs → All P rs → All P order
all-in_order P order rs o h i d l = All-contains P rs (get_or order i d) h (o.listed i d l)
