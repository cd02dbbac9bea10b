-- Where the order by place is parted: at a parent, and at a place.
use Rattle.std.proofs.Common.{◌≡◌, ℕ, zero, suc, ◌+◌, ◌-◌, ◌<◌, ◌≤◌, List, [], ◌∷◌, Bool, true, false, cond, nat_lt, refl, sym, ap, subst, ◌∙◌, arith, filter, inl, inr, length, get_or, take, drop, length-drop, get_or-drop}
use Rattle.std.specs.List.{AllWithin}
use Rattle.std.specs.List.Sorted.{IsPartitionPoint, IsPartitionedBy, IsStrictlySortedBy}
use Rattle.std.specs.declared.cmp.Ordering.{Ordering}
use Rattle.std.specs.declared.cmp.Ordering.TheVariants.{Less, Equal, Greater}
use Rattle.std.specs.Cmp.Lexicographic.{slice_cmp}
use Rattle.std.specs.Ordering.{is_eq, is_gt, is_le, is_lt, nat_cmp, ordering_then}
use Rattle.std.proofs.lemmas.Bool.{cases_Bool, true≢false}
use Rattle.std.proofs.lemmas.Bool.Decides.{nat_tests}
use Rattle.std.proofs.lemmas.Cmp.{upto}
use Rattle.std.proofs.lemmas.List.{get_or-take, length-take-le}
use Rattle.std.proofs.lemmas.Map.Keys.{Less-from_sorted}
use Rattle.canvas_record.specs.declared.records.Parent.{Parent}
use Rattle.canvas_record.specs.declared.records.Place.{Place}
use Rattle.canvas_record.specs.declared.records.Record.{Record}
use Rattle.canvas_record.specs.Children.{is_child}
use Rattle.canvas_doc.specs.PlaceOrder.{by_parent, by_place, comes_first, AreChildrenWithin, IsPlaceOf}
use Rattle.canvas_doc.proofs.places.ByPlace.{by_parent-total, by_place-total}
use Rattle.canvas_doc.proofs.places.Placed.{holder-eq}
use Rattle.canvas_doc.proofs.lists.Tests.{less-from_lt}

-- whether the parent of a record compares so to p, and its place to another
abbrev pub has_parent : (Ordering → Bool) → Parent → Record → Bool
has_parent test p r = test (by_parent r.place.parent p)

abbrev pub stands_before : Place → Record → Bool
stands_before place r = is_lt (by_place r.place place)

-- a test that what comes first passes, too
abbrev IsPassedBefore : (Record → Bool) → Type 0
IsPassedBefore test = (r s : Record) → comes_first r s ≡ Less → test s ≡ true → test r ≡ true

parted : (test : Record → Bool) → IsPassedBefore test → (order : List Record) → IsStrictlySortedBy comes_first order → IsPartitionedBy test order
parted test down order s i j d low b t = elim (cases_Bool (nat_lt i j)) [
  | inl l ↦ (let before : i < j = grind (arith, nat_tests) in
      down (get_or order i d) (get_or order j d) (Less-from_sorted comes_first order i j d s before b) t)
  | inr f ↦ (let same : j ≡ i = grind (arith, nat_tests) in subst (λ k. test (get_or order k d) ≡ true) same t)
]

parent-first : (a b : Ordering) → ordering_then a b ≡ Less → is_gt a ≡ false
parent-first Less b h = refl
parent-first Equal b h = refl
parent-first Greater b h = cc

parents-first : (r s : Record) → comes_first r s ≡ Less → is_gt (by_parent r.place.parent s.place.parent) ≡ false
parents-first r s h = parent-first (by_parent r.place.parent s.place.parent) (slice_cmp nat_cmp s.place.index r.place.index) h

lt-cases : (p q s : Parent) (o : Ordering) → by_parent p q ≡ o → is_gt o ≡ false → by_parent q s ≡ Less → by_parent p s ≡ Less
lt-cases p q s Less e h l = by_parent-total.trans p q s e l
lt-cases p q s Equal e h l = by_parent-total.congr p q s e ∙ l
lt-cases p q s Greater e h l = cc

le-gt : (o : Ordering) → is_le o ≡ true → is_gt o ≡ false
le-gt Less h = refl
le-gt Equal h = refl
le-gt Greater h = cc

gt-le : (o : Ordering) → is_gt o ≡ false → is_le o ≡ true
gt-le Less h = refl
gt-le Equal h = refl
gt-le Greater h = cc

-- the order is parted where the parents before p end, where its children end, and at a place
pub parted-before : (p : Parent) (order : List Record) → IsStrictlySortedBy comes_first order → IsPartitionedBy (has_parent is_lt p) order
parted-before p = parted (has_parent is_lt p) (λ r s l t.
    ap is_lt (lt-cases r.place.parent s.place.parent p (by_parent r.place.parent s.place.parent) refl (parents-first r s l) (less-from_lt (by_parent s.place.parent p) t)))

pub parted-up_to : (p : Parent) (order : List Record) → IsStrictlySortedBy comes_first order → IsPartitionedBy (has_parent is_le p) order
parted-up_to p = parted (has_parent is_le p) (λ r s l t.
    gt-le (by_parent r.place.parent p) (upto by_parent-total r.place.parent s.place.parent p (parents-first r s l) (le-gt (by_parent s.place.parent p) t)))

pub parted-at : (place : Place) (order : List Record) → IsStrictlySortedBy comes_first order → IsPartitionedBy (stands_before place) order
parted-at place = parted (stands_before place) (λ r s l t.
    ap is_lt (by_place-total.trans r.place s.place place l (less-from_lt (by_place s.place place) t)))

-- what passes only from low up to high is what stands there
filter-within : (q : Record → Bool) (xs : List Record) (low high : ℕ) → low ≤ high → high ≤ length xs
    → AllWithin (λ x. q x ≡ false) xs 0 low → AllWithin (λ x. q x ≡ true) xs low high → AllWithin (λ x. q x ≡ false) xs high (length xs) → take (high - low) (drop low xs) ≡ filter q xs
filter-within q [] zero zero l b before in' past = refl
filter-within q [] zero (suc high) l b before in' past = absurd (omega arith)
filter-within q [] (suc low) high l b before in' past = absurd (omega arith)
filter-within q (x ∷ xs) (suc low) zero l b before in' past = absurd (omega arith)
filter-within q (x ∷ xs) (suc low) (suc high) l b before in' past =
    let fails : q x ≡ false = before 0 x (omega arith) (omega arith) in
    let same : suc high - suc low ≡ high - low = omega arith in
    ap (λ n. take n (drop low xs)) same
    ∙ filter-within q xs low high (omega arith) (omega arith) (λ k d m n. before (suc k) d (omega arith) (omega arith)) (λ k d m n. in' (suc k) d (omega arith) (omega arith)) (λ k d m n. past (suc k) d (omega arith) (omega arith))
    ∙ ap (λ b. cond b (x ∷ filter q xs) (filter q xs)) (sym fails)
filter-within q (x ∷ xs) zero zero l b before in' past =
    let fails : q x ≡ false = past 0 x (omega arith) (omega arith) in
    filter-within q xs zero zero (omega arith) (omega arith) (λ k d m n. before (suc k) d (omega arith) (omega arith)) (λ k d m n. in' (suc k) d (omega arith) (omega arith)) (λ k d m n. past (suc k) d (omega arith) (omega arith))
    ∙ ap (λ b. cond b (x ∷ filter q xs) (filter q xs)) (sym fails)
filter-within q (x ∷ xs) zero (suc high) l b before in' past =
    let passes : q x ≡ true = in' 0 x (omega arith) (omega arith) in
    let whole : suc high - zero ≡ suc high = omega arith in
    let less : high ≡ high - zero = omega arith in
    ap (λ n. take n (x ∷ xs)) whole
    ∙ ap (λ n. x ∷ take n xs) less
    ∙ ap (λ (rs : List Record). x ∷ rs) (filter-within q xs zero high (omega arith) (omega arith) (λ k d m n. absurd (omega arith)) (λ k d m n. in' (suc k) d (omega arith) (omega arith)) (λ k d m n. past (suc k) d (omega arith) (omega arith)))
    ∙ ap (λ b. cond b (x ∷ filter q xs) (filter q xs)) (sym passes)

between : (o : Ordering) → is_lt o ≡ false → is_le o ≡ true → is_eq o ≡ true
between Less h k = cc
between Equal h k = refl
between Greater h k = cc

below : (o : Ordering) → is_lt o ≡ true → is_eq o ≡ false
below Less h = refl
below Equal h = cc
below Greater h = cc

above : (o : Ordering) → is_le o ≡ false → is_eq o ≡ false
above Less h = cc
above Equal h = cc
above Greater h = refl

lt-le : (o : Ordering) → is_lt o ≡ true → is_le o ≡ true
lt-le Less h = refl
lt-le Equal h = cc
lt-le Greater h = cc

child-eq : (p : Parent) (r : Record) → is_child p r ≡ has_parent is_eq p r
child-eq p r = sym (holder-eq r.place.parent p)

-- the first point is not behind the second
points-rise : (p : Parent) (order : List Record) (low high : ℕ) → low ≤ length order
    → IsPartitionPoint (λ r. has_parent is_lt p r ≡ true) (λ r. has_parent is_lt p r ≡ false) order low
    → IsPartitionPoint (λ r. has_parent is_le p r ≡ true) (λ r. has_parent is_le p r ≡ false) order high
    → low ≤ high
points-rise p [] low high b lows highs = omega arith
points-rise p (r ∷ rs) low high b lows highs = elim (cases_Bool (nat_lt high low)) [
  | inl t ↦ (let l : high < low = grind (arith, nat_tests) in
      let it : Record = get_or (r ∷ rs) high r in
      absurd (true≢false (sym (lt-le (by_parent it.place.parent p) (lows.0 high r (omega arith) l)) ∙ highs.1 high r (omega arith) (omega arith))))
  | inr f ↦ grind (arith, nat_tests)
]

-- between the two points stand the children
pub children-within : (p : Parent) (order : List Record) (low high : ℕ) → low ≤ length order → high ≤ length order
    → IsPartitionPoint (λ r. has_parent is_lt p r ≡ true) (λ r. has_parent is_lt p r ≡ false) order low
    → IsPartitionPoint (λ r. has_parent is_le p r ≡ true) (λ r. has_parent is_le p r ≡ false) order high
    → AreChildrenWithin p order low high
children-within p order low high a b lows highs =
    let l : low ≤ high = points-rise p order low high a lows highs in
    record {
      from = l;
      bound = b;
      are = filter-within (is_child p) order low high l b
          (λ k d m n. child-eq p (get_or order k d) ∙ below (by_parent (get_or order k d).place.parent p) (lows.0 k d m n))
          (λ k d m n. child-eq p (get_or order k d) ∙ between (by_parent (get_or order k d).place.parent p) (lows.1 k d m (omega arith)) (highs.0 k d (omega arith) n))
          (λ k d m n. child-eq p (get_or order k d) ∙ above (by_parent (get_or order k d).place.parent p) (highs.1 k d m n));
    }

-- the point of a place
pub place-of : (place : Place) (order : List Record) (at : ℕ) → at ≤ length order
    → IsPartitionPoint (λ r. stands_before place r ≡ true) (λ r. stands_before place r ≡ false) order at → IsPlaceOf place order at
place-of place order at b point = record {
  bound = b;
  before = λ k d l.
      let long : length (take at order) ≡ at = length-take-le at order b in
      let in' : k < at = omega (arith, l) in
      subst (λ (r : Record). stands_before place r ≡ true) (sym (get_or-take at order k d in')) (point.0 k d (omega arith) in');
  behind = λ k d l.
      let long : length (drop at order) ≡ length order - at = length-drop at order in
      subst (λ (r : Record). stands_before place r ≡ false) (sym (get_or-drop at order k d)) (point.1 (at + k) d (omega arith) (omega (arith, l)));
}
