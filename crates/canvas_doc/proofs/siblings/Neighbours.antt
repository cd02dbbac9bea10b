-- Siblings side by side: the first has the greatest index, the last the least.
use Rattle.std.proofs.Common.{◌≡◌, ℕ, ◌+◌, ◌-◌, ◌<◌, ◌≤◌, ◌==◌, List, [], ◌∷◌, ◌++◌, Bool, true, false, not, cond, Option, Some, None, refl, sym, ap, ◌∙◌, arith, filter, inl, inr, subst, length, get_or, take, drop, reverse, All}
use Rattle.std.specs.List.{Contains}
use Rattle.std.specs.List.Sorted.{IsStrictlySortedBy}
use Rattle.std.specs.Ordering.{nat_cmp, ordering_then, is_lt}
use Rattle.std.specs.declared.cmp.Ordering.TheVariants.{Less}
use Rattle.std.specs.Cmp.Lexicographic.{slice_cmp}
use Rattle.std.proofs.Math.Seq.{take-add, drop-drop}
use Rattle.std.proofs.lemmas.Bool.{cases_Bool, true≢false, and_parts}
use Rattle.std.proofs.lemmas.Cmp.{tied_itself}
use Rattle.std.proofs.lemmas.List.{get_or_append_left, get_or-take, get_or-drop, length-take, length-drop, length-append, drop-take, reverse-append}
use Rattle.std.proofs.lemmas.List.Elements.{All-head, All-tail, All-contains, All-take, All-drop, All-filter, filter_passes, filter-append}
use Rattle.std.proofs.lemmas.List.Kept.{IsStrictlySortedBy-filter}
use Rattle.std.proofs.lemmas.Map.Keys.{Less-from_sorted}
use Rattle.canvas_key.specs.Order.{is_before}
use Rattle.canvas_record.specs.declared.records.Parent.{Parent}
use Rattle.canvas_record.specs.declared.records.Place.{Place}
use Rattle.canvas_record.specs.declared.records.Record.{Record}
use Rattle.canvas_record.specs.Children.{is_child, is_in_front}
use Rattle.canvas_record.specs.Contents.{record_of}
use Rattle.canvas_doc.specs.Ends.{first_index, last_index}
use Rattle.canvas_doc.specs.PlaceOrder.{by_parent, by_place, comes_first, IsInPlaceOrder, AreChildrenWithin, IsPlaceOf}
use Rattle.canvas_record.specs.Siblings.{is_sibling, siblings, lesser, greater, is_above, least_above, greatest_index}
use Rattle.canvas_doc.proofs.places.ByPlace.{by_parent-total, by_place-total}
use Rattle.canvas_doc.proofs.places.ChildrenInOrder.{sorted-apart}
use Rattle.canvas_doc.proofs.siblings.Fronts.{before-asym}
use Rattle.canvas_doc.proofs.lists.SameMembers.{same-members, filter-members, Contains-filter, contains-first, contains-later}
use Rattle.canvas_doc.proofs.siblings.Sorting.{AreApart}
use Rattle.canvas_doc.proofs.siblings.Spotted.{least_with, least-turn, least-twice, greater-turn, greater-twice}
use Rattle.canvas_doc.proofs.tree.Parents.{same_parent-itself, same_parent-is}

-- a record but for one shape
abbrev pub is_other : ℕ → Record → Bool
is_other own r = not (r.id == own)

All-left : {X : Type 0} (P : X → Type 0) (xs ys : List X) → All P (xs ++ ys) → All P xs
All-left P xs ys a = λ k d l. subst P (get_or_append_left xs ys d k l) (a k d (omega (arith, length-append xs ys)))

All-right : {X : Type 0} (P : X → Type 0) (xs ys : List X) → All P (xs ++ ys) → All P ys
All-right P [] ys a = a
All-right P (x ∷ xs) ys a = All-right P xs ys (All-tail P x (xs ++ ys) a)

-- siblings are the children but for one shape
pub siblings-are : (own : ℕ) (p : Parent) (rs : List Record) → siblings own p rs ≡ filter (is_other own) (filter (is_child p) rs)
siblings-are own p [] = refl
siblings-are own p (r ∷ rs) = elim (cases_Bool (is_child p r)) [
  | inl t ↦ elim (cases_Bool (r.id == own)) [ inl e ↦ rw (t, e) (siblings-are own p rs) | inr e ↦ rw (t, e) (ap (λ l. r ∷ l) (siblings-are own p rs)) ]
  | inr f ↦ rw f (siblings-are own p rs)
]

-- the same siblings, in any order
pub same-greatest : (xs ys : List Record) → All (Contains ys) xs → All (Contains xs) ys → greatest_index xs ≡ greatest_index ys
same-greatest xs ys h k =
    same-members greatest_index (λ r o. Some (greater o r.place.index)) (λ r rs. refl)
    (λ r s o. ap Some (greater-turn o s.place.index r.place.index)) (λ r o. ap Some (greater-twice o r.place.index)) xs ys h k

pub same-least : (bound : Option (List ℕ)) (xs ys : List Record) → All (Contains ys) xs → All (Contains xs) ys → least_above bound xs ≡ least_above bound ys
same-least bound xs ys h k =
    same-members (least_above bound) (λ r o. least_with (is_above bound r.place.index) o r.place.index) (λ r rs. refl)
    (λ r s o. least-turn o r.place.index s.place.index (is_above bound r.place.index) (is_above bound s.place.index))
    (λ r o. least-twice o r.place.index (is_above bound r.place.index)) xs ys h k

pub sibling-parent : (own : ℕ) (p : Parent) (r : Record) → is_sibling own p r ≡ true → r.place.parent ≡ p
sibling-parent own p r h = same_parent-is r.place.parent p (and_parts (is_child p r) (not (r.id == own)) h).0

pub by-index : (a b : Place) → a.parent ≡ b.parent → by_place a b ≡ slice_cmp nat_cmp b.index a.index
by-index a b e = ap (λ o. ordering_then o (slice_cmp nat_cmp b.index a.index)) (ap (by_parent a.parent) (sym e) ∙ tied_itself by_parent-total a.parent)

-- the children side by side
pub apart-children : (p : Parent) (order : List Record) → IsStrictlySortedBy comes_first order → AreApart (filter (is_child p) order)
apart-children p order w = sorted-apart p (filter (is_child p) order) (filter_passes (is_child p) order) (IsStrictlySortedBy-filter comes_first (is_child p) order w)

-- the first has the greatest index
not_greater : (key : List ℕ) (l : List Record) → All (λ s. is_before s.place.index key ≡ true) l → greater (greatest_index l) key ≡ key
not_greater key [] a = refl
not_greater key (s ∷ l) a =
    let n : is_before key s.place.index ≡ false = before-asym s.place.index key (All-head (λ s. is_before s.place.index key ≡ true) s l a) in
    greater-turn (greatest_index l) s.place.index key
    ∙ ap (λ k. greater (Some k) s.place.index) (not_greater key l (All-tail (λ s. is_before s.place.index key ≡ true) s l a))
    ∙ rw n refl

first-greatest : (own : ℕ) (rs : List Record) → AreApart rs → greatest_index (filter (is_other own) rs) ≡ first_index own rs
first-greatest own [] w = refl
first-greatest own (r ∷ rs) w = elim (cases_Bool (r.id == own)) [
  | inl e ↦ rw e (first-greatest own rs w.1)
  | inr e ↦ rw e (ap Some (not_greater r.place.index (filter (is_other own) rs) (All-filter (is_other own) (λ s. is_in_front r s ≡ true) rs w.0)))
]

pub greatest-first : (own : ℕ) (p : Parent) (order rs : List Record) → IsInPlaceOrder order rs → first_index own (filter (is_child p) order) ≡ greatest_index (siblings own p rs)
greatest-first own p order rs w =
    sym (first-greatest own (filter (is_child p) order) (apart-children p order w.rising))
    ∙ ap greatest_index (sym (siblings-are own p order))
    ∙ same-greatest (siblings own p order) (siblings own p rs) (filter-members (is_sibling own p) order rs w.listed) (filter-members (is_sibling own p) rs order w.complete)

-- no index in front of a key
abbrev IsUnder : List ℕ → Option (List ℕ) → Type 0
IsUnder key None = Unit {0}
IsUnder key (Some k) = is_before k key ≡ true

under-lesser : (key : List ℕ) (o : Option (List ℕ)) (k : List ℕ) → IsUnder key o → is_before k key ≡ true → is_before (lesser o k) key ≡ true
under-lesser key None k h e = e
under-lesser key (Some other) k h e = elim (is_before k other) as (λ b. is_before (cond b k other) key ≡ true) [ true ↦ e | false ↦ h ]

under-step : (key : List ℕ) (b : Bool) (o : Option (List ℕ)) (k : List ℕ) → IsUnder key o → is_before k key ≡ true → IsUnder key (least_with b o k)
under-step key true o k h e = under-lesser key o k h e
under-step key false o k h e = h

under-least : (bound : Option (List ℕ)) (key : List ℕ) (l : List Record) → All (λ s. is_before s.place.index key ≡ true) l → IsUnder key (least_above bound l)
under-least bound key [] a = tt
under-least bound key (s ∷ l) a =
    under-step key (is_above bound s.place.index) (least_above bound l) s.place.index
    (under-least bound key l (All-tail (λ s. is_before s.place.index key ≡ true) s l a))
    (All-head (λ s. is_before s.place.index key ≡ true) s l a)

-- the one, or else the other
abbrev or_key : Option (List ℕ) → List ℕ → List ℕ
or_key None key = key
or_key (Some k) key = k

lesser-under : (key : List ℕ) (o : Option (List ℕ)) → IsUnder key o → lesser o key ≡ or_key o key
lesser-under key None h = refl
lesser-under key (Some k) h = let n : is_before key k ≡ false = before-asym k key h in rw n refl

-- the first of a list, or else the index of a record behind it
first-behind : (own : ℕ) (l : List Record) (r : Record) → (r.id == own) ≡ false → first_index own (l ++ r ∷ []) ≡ Some (or_key (first_index own l) r.place.index)
first-behind own [] r h = rw h refl
first-behind own (s ∷ l) r h = elim (cases_Bool (s.id == own)) [ inl e ↦ rw e (first-behind own l r h) | inr e ↦ rw e refl ]

first-own : (own : ℕ) (l : List Record) (r : Record) → (r.id == own) ≡ true → first_index own (l ++ r ∷ []) ≡ first_index own l
first-own own [] r h = rw h refl
first-own own (s ∷ l) r h = elim (cases_Bool (s.id == own)) [ inl e ↦ rw e (first-own own l r h) | inr e ↦ rw e refl ]

-- the last has the least index
last-least : (bound : Option (List ℕ)) (own : ℕ) (rs : List Record) → AreApart rs → All (λ r. is_above bound r.place.index ≡ true) rs → least_above bound (filter (is_other own) rs) ≡ last_index own rs
last-least bound own [] w a = refl
last-least bound own (r ∷ rs) w a =
    let rest : least_above bound (filter (is_other own) rs) ≡ last_index own rs = last-least bound own rs w.1 (All-tail (λ s. is_above bound s.place.index ≡ true) r rs a) in
    let counts : is_above bound r.place.index ≡ true = All-head (λ s. is_above bound s.place.index ≡ true) r rs a in
    let turned : last_index own (r ∷ rs) ≡ first_index own (reverse rs ++ r ∷ []) = ap (first_index own) (reverse-append (r ∷ []) rs) in
    elim (cases_Bool (r.id == own)) [
      | inl e ↦ (let passed : last_index own (r ∷ rs) ≡ last_index own rs = turned ∙ first-own own (reverse rs) r e in
          rw (passed, e) rest)
      | inr e ↦ (let taken : last_index own (r ∷ rs) ≡ Some (or_key (last_index own rs) r.place.index) = turned ∙ first-behind own (reverse rs) r e in
          rw (taken, e, counts) (ap Some (lesser-under r.place.index (least_above bound (filter (is_other own) rs)) (under-least bound r.place.index (filter (is_other own) rs) (All-filter (is_other own) (λ s. is_in_front r s ≡ true) rs w.0))
          ∙ ap (λ o. or_key o r.place.index) rest)))
    ]

all-count : (rs : List Record) → All (λ r. is_above None r.place.index ≡ true) rs
all-count rs = λ k d l. refl

same-siblings : (bound : Option (List ℕ)) (own : ℕ) (p : Parent) (order rs : List Record) → IsInPlaceOrder order rs → least_above bound (siblings own p order) ≡ least_above bound (siblings own p rs)
same-siblings bound own p order rs w =
    same-least bound (siblings own p order) (siblings own p rs) (filter-members (is_sibling own p) order rs w.listed) (filter-members (is_sibling own p) rs order w.complete)

pub least-last : (own : ℕ) (p : Parent) (order rs : List Record) → IsInPlaceOrder order rs → last_index own (filter (is_child p) order) ≡ least_above None (siblings own p rs)
least-last own p order rs w =
    sym (last-least None own (filter (is_child p) order) (apart-children p order w.rising) (all-count (filter (is_child p) order)))
    ∙ ap (least_above None) (sym (siblings-are own p order))
    ∙ same-siblings None own p order rs w

-- those that do not count
least-none : (bound : Option (List ℕ)) (ys : List Record) → All (λ r. is_above bound r.place.index ≡ false) ys → least_above bound ys ≡ None
least-none bound [] a = refl
least-none bound (y ∷ ys) a =
    let n : is_above bound y.place.index ≡ false = All-head (λ r. is_above bound r.place.index ≡ false) y ys a in
    rw n (least-none bound ys (All-tail (λ r. is_above bound r.place.index ≡ false) y ys a))

least-before : (bound : Option (List ℕ)) (xs ys : List Record) → All (λ r. is_above bound r.place.index ≡ false) ys → least_above bound (xs ++ ys) ≡ least_above bound xs
least-before bound [] ys a = least-none bound ys a
least-before bound (x ∷ xs) ys a = ap (λ o. least_with (is_above bound x.place.index) o x.place.index) (least-before bound xs ys a)

apart-left : (xs ys : List Record) → AreApart (xs ++ ys) → AreApart xs
apart-left [] ys w = tt
apart-left (x ∷ xs) ys w = (All-left (λ s. is_in_front x s ≡ true) xs ys w.0, apart-left xs ys w.1)

-- the children of a parent, before and behind a place
parted-least : (bound : Option (List ℕ)) (own : ℕ) (p : Parent) (order xs ys : List Record) → IsStrictlySortedBy comes_first order → xs ++ ys ≡ filter (is_child p) order → All (λ r. is_above bound r.place.index ≡ true) xs → All (λ r. is_above bound r.place.index ≡ false) ys → last_index own xs ≡ least_above bound (siblings own p order)
parted-least bound own p order xs ys w e a b =
    sym (last-least bound own xs (apart-left xs ys (subst AreApart (sym e) (apart-children p order w))) a)
    ∙ sym (least-before bound (filter (is_other own) xs) (filter (is_other own) ys) (All-filter (is_other own) (λ r. is_above bound r.place.index ≡ false) ys b))
    ∙ ap (least_above bound) (sym (filter-append (is_other own) xs ys) ∙ ap (filter (is_other own)) e ∙ sym (siblings-are own p order))

-- a record of the order stands at the position of its place
placed-at : (order : List Record) (k at : ℕ) (s : Record) → IsStrictlySortedBy comes_first order → k < length order → get_or order k s ≡ s → IsPlaceOf s.place order at → at ≡ k
placed-at order k at s w l e is =
    let not_before : k < at → ⊥ = λ h. (
    let there : get_or (take at order) k s ≡ s = get_or-take at order k s h ∙ e in
    let less : is_lt (by_place (get_or (take at order) k s).place s.place) ≡ true = is.before k s (omega (arith, length-take at order)) in
    true≢false (sym less ∙ ap (λ (r : Record). is_lt (by_place r.place s.place)) there ∙ ap is_lt (tied_itself by_place-total s.place))) in
    let not_behind : at < k → ⊥ = λ h. (
    let not_less : is_lt (by_place (get_or (drop at order) 0 s).place s.place) ≡ false = is.behind 0 s (omega (arith, length-drop at order)) in
    let here : at + 0 ≡ at = omega arith in
    let there : get_or (drop at order) 0 s ≡ get_or order at s = get_or-drop at order 0 s ∙ ap (λ n. get_or order n s) here in
    let less : comes_first (get_or order at s) (get_or order k s) ≡ Less = Less-from_sorted comes_first order at k s w h l in
    true≢false (sym (ap is_lt less) ∙ ap (λ (r : Record). is_lt (comes_first (get_or order at s) r)) e ∙ ap (λ (r : Record). is_lt (by_place r.place s.place)) (sym there) ∙ not_less)) in
    omega arith

in-part : (order : List Record) (low n at : ℕ) (s : Record) → IsStrictlySortedBy comes_first order → Contains (take n (drop low order)) s → IsPlaceOf s.place order at → (low ≤ at) × (at < low + n)
in-part order low n at s w h is =
    let inside : h.0 < length (take n (drop low order)) = h.1 in
    let few : h.0 < n = omega (arith, length-take n (drop low order)) in
    let there : get_or order (low + h.0) s ≡ s = sym (get_or-drop low order h.0 s) ∙ sym (get_or-take n (drop low order) h.0 s few) ∙ h.2 in
    let place : at ≡ low + h.0 = placed-at order (low + h.0) at s w (omega (arith, length-take n (drop low order), length-drop low order)) there is in
    (omega arith, omega arith)

-- the position of a shape's place is that of one of its parent's children
pub among-children : (order rs : List Record) (low high at : ℕ) (s : Record) → IsInPlaceOrder order rs → Contains rs s → AreChildrenWithin s.place.parent order low high → IsPlaceOf s.place order at → (low ≤ at) × (at ≤ high)
among-children order rs low high at s w h c is =
    let listed : Contains order s = All-contains (Contains order) rs s w.complete h in
    let child : Contains (filter (is_child s.place.parent) order) s = Contains-filter (is_child s.place.parent) order s listed (same_parent-itself s.place.parent) in
    let part : (low ≤ at) × (at < low + (high - low)) = in-part order low (high - low) at s w.rising (subst (λ (l : List Record). Contains l s) (sym c.are) child) is in
    let from : low ≤ high = c.from in
    (part.0, omega arith)

same-side : (s : Record) (b : Bool) (l : List Record) → All (λ r. is_child s.place.parent r ≡ true) l → All (λ r. is_lt (by_place r.place s.place) ≡ b) l → All (λ r. is_above (Some s.place.index) r.place.index ≡ b) l
same-side s b l a h = λ k d i. ap is_lt (sym (by-index (get_or l k d).place s.place (same_parent-is (get_or l k d).place.parent s.place.parent (a k d i)))) ∙ h k d i

-- the last child before a shape has the least index above the shape's
pub next-least : (own : ℕ) (order rs : List Record) (low high at : ℕ) (s : Record) → IsInPlaceOrder order rs → Contains rs s → AreChildrenWithin s.place.parent order low high → IsPlaceOf s.place order at → last_index own (take (at - low) (drop low order)) ≡ least_above (Some s.place.index) (siblings own s.place.parent rs)
next-least own order rs low high at s w h c is =
    let within : (low ≤ at) × (at ≤ high) = among-children order rs low high at s w h c is in
    let p : Parent = s.place.parent in
    let xs : List Record = take (at - low) (drop low order) in
    let ys : List Record = take (high - at) (drop at order) in
    let sum : high - low ≡ (at - low) + (high - at) = omega arith in
    let there : low + (at - low) ≡ at = omega arith in
    let parts : xs ++ ys ≡ filter (is_child p) order =
    ap (λ (l : List Record). xs ++ take (high - at) l) (sym (ap (λ n. drop n order) there) ∙ sym (drop-drop (at - low) low order))
    ∙ sym (take-add (at - low) (high - at) (drop low order)) ∙ ap (λ n. take n (drop low order)) (sym sum) ∙ c.are in
    let children : All (λ r. is_child p r ≡ true) (xs ++ ys) = subst (All (λ r. is_child p r ≡ true)) (sym parts) (filter_passes (is_child p) order) in
    let cut : drop low (take at order) ≡ xs = ap (λ n. drop low (take n order)) (sym there) ∙ drop-take low (at - low) order in
    let before : All (λ r. is_lt (by_place r.place s.place) ≡ true) xs = subst (All (λ r. is_lt (by_place r.place s.place) ≡ true)) cut (All-drop (λ r. is_lt (by_place r.place s.place) ≡ true) low (take at order) is.before) in
    let behind : All (λ r. is_lt (by_place r.place s.place) ≡ false) ys = All-take (λ r. is_lt (by_place r.place s.place) ≡ false) (high - at) (drop at order) is.behind in
    parted-least (Some s.place.index) own p order xs ys w.rising parts
    (same-side s true xs (All-left (λ r. is_child p r ≡ true) xs ys children) before)
    (same-side s false ys (All-right (λ r. is_child p r ≡ true) xs ys children) behind)
    ∙ same-siblings (Some s.place.index) own p order rs w

-- a record that was found by its id
pub found-contained : (id : ℕ) (rs : List Record) (r : Record) → record_of id rs ≡ Some r → Contains rs r
found-contained id [] r h = cc
found-contained id (x ∷ rs) r h = elim (cases_Bool (x.id == id)) [
  | inl t ↦ contains-first x rs r (let same : Some x ≡ Some r = rw t at h in cc)
  | inr f ↦ contains-later x rs r (found-contained id rs r (rw f at h))
]
