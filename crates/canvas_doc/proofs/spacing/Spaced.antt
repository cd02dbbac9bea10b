-- New indexes for the children of a parent, found by their places in the order.
use Rattle.std.proofs.Common.{◌≡◌, ℕ, zero, suc, ◌+◌, ◌-◌, ◌<◌, ◌≤◌, List, [], ◌∷◌, Bool, true, false, cond, ◌&&◌, refl, sym, ap, ◌∙◌, arith, inl, inr, All, filter, length, get_or, nat_lt, take}
use Rattle.std.specs.List.{count_by}
use Rattle.std.specs.List.Sorted.{IsStrictlySortedBy}
use Rattle.std.proofs.lemmas.Bool.{cases_Bool}
use Rattle.std.proofs.lemmas.Bool.Decides.{nat_tests}
use Rattle.std.proofs.lemmas.List.{take_all}
use Rattle.std.proofs.lemmas.List.Kept.{IsStrictlySortedBy-filter}
use Rattle.std.proofs.lemmas.List.Sorted.{sum_by-IsPermutation}
use Rattle.std.proofs.lemmas.List.Sums.{count_by_more_no, count_by_more_yes, length-filter}
use Rattle.std.proofs.lemmas.Map.Keys.{Less-from_sorted}
use Rattle.canvas_key.specs.Rank.{fresh_key}
use Rattle.canvas_record.specs.declared.records.Parent.{Parent}
use Rattle.canvas_record.specs.declared.records.Record.{Record}
use Rattle.canvas_record.specs.Children.{children, is_child, is_in_front}
use Rattle.canvas_record.specs.Effect.{rank_of, respaced}
use Rattle.canvas_doc.specs.PlaceOrder.{comes_first, IsInPlaceOrder}
use Rattle.canvas_record.specs.Tree.{HavePlaces}
use Rattle.canvas_doc.proofs.places.ChildrenInOrder.{children-are, first-in_front}
use Rattle.canvas_doc.proofs.siblings.Fronts.{before-asym, before-itself}
use Rattle.canvas_doc.proofs.siblings.Sorting.{front_first-moves}
use Rattle.canvas_doc.proofs.tree.Parents.{same_parent-is}

count-some : {X : Type 0} (x : X) (xs : List X) (b : Bool) → length (cond b (x ∷ xs) xs) ≡ cond b 1 0 + length xs
count-some x xs true = omega arith
count-some x xs false = omega arith

count-cons : {X : Type 0} (p : X → Bool) (x : X) (xs : List X) → count_by p (x ∷ xs) ≡ cond (p x) 1 0 + count_by p xs
count-cons p x xs = sym (length-filter p (x ∷ xs)) ∙ count-some x (filter p xs) (p x) ∙ ap (λ n. cond (p x) 1 0 + n) (length-filter p xs)

count-step : (b c : Bool) (t : Record → Bool) (m : ℕ) (r : Record) (rs : List Record) → t r ≡ c → m ≡ count_by t rs → cond (b && c) 1 0 + m ≡ count_by t (cond b (r ∷ rs) rs)
count-step true c t m r rs e h = ap (λ n. cond c 1 0 + n) h ∙ ap (λ d. cond d 1 0 + count_by t rs) (sym e) ∙ sym (count-cons t r rs)
count-step false c t m r rs e h = omega (arith, h)

-- counted among all records, or among those that pass
count-passing : (c t : Record → Bool) (rs : List Record) → count_by (λ s. c s && t s) rs ≡ count_by t (filter c rs)
count-passing c t [] = refl
count-passing c t (r ∷ rs) = count-cons (λ s. c s && t s) r rs ∙ count-step (c r) (t r) t (count_by (λ s. c s && t s) rs) r (filter c rs) refl (count-passing c t rs)

-- how many of the first m come behind the one at i, each in front of all that come later
count-behind : (cs : List Record) (i m : ℕ) (r : Record) → m ≤ length cs → i < length cs → get_or cs i r ≡ r
    → ((j k : ℕ) → j < k → k < length cs → is_in_front (get_or cs j r) (get_or cs k r) ≡ true) → count_by (is_in_front r) (take m cs) ≡ m - (i + 1)
count-behind cs i zero r b l e h = (let none : 0 ≡ 0 - (i + 1) = omega arith in none)
count-behind cs i (suc m) r b l e h =
    let rest : count_by (is_in_front r) (take m cs) ≡ m - (i + 1) = count-behind cs i m r (omega arith) l e h in
    let next : suc m ≡ m + 1 = omega arith in
    ap (λ n. count_by (is_in_front r) (take n cs)) next
    ∙ elim (cases_Bool (nat_lt i m)) [
      | inl t ↦ (
          let behind : i < m = grind (arith, nat_tests) in
          count_by_more_yes (is_in_front r) cs m r (omega arith) (ap (λ x. is_in_front x (get_or cs m r)) (sym e) ∙ h i m behind (omega arith))
          ∙ ap (λ n. n + 1) rest ∙ omega arith)
      | inr f ↦ elim (cases_Bool (nat_lt m i)) [
        | inl t ↦ (
            let before : m < i = grind (arith, nat_tests) in
            let front : is_in_front (get_or cs m r) r ≡ true = ap (is_in_front (get_or cs m r)) (sym e) ∙ h m i before l in
            count_by_more_no (is_in_front r) cs m r (omega arith) (before-asym r.place.index (get_or cs m r).place.index front) ∙ rest ∙ omega arith)
        | inr g ↦ (
            let same : m ≡ i = grind (arith, nat_tests) in
            count_by_more_no (is_in_front r) cs m r (omega arith) (ap (λ n. is_in_front r (get_or cs n r)) same ∙ ap (is_in_front r) e ∙ before-itself r.place.index) ∙ rest ∙ omega arith)
      ]
    ]

passing-cons : (p : Parent) (x : Record) (ys : List Record) → is_child p x ≡ true → All (λ s. is_child p s ≡ true) ys → All (λ s. is_child p s ≡ true) (x ∷ ys)
passing-cons p x ys t h zero d b = t
passing-cons p x ys t h (suc i) d b = h i d (omega arith)

pub all-passing : (p : Parent) (xs : List Record) → All (λ s. is_child p s ≡ true) (filter (is_child p) xs)
all-passing p [] = λ i d b. absurd (omega arith)
all-passing p (x ∷ xs) = elim (cases_Bool (is_child p x)) [
  | inl t ↦ rw t (passing-cons p x (filter (is_child p) xs) t (all-passing p xs))
  | inr f ↦ rw f (all-passing p xs)
]

-- the rank of a child is how many children stand behind it in the order
pub rank-at : (p : Parent) (order : List Record) (i : ℕ) (r : Record) → IsStrictlySortedBy comes_first order → i < length (filter (is_child p) order) → get_or (filter (is_child p) order) i r ≡ r → is_child p r ≡ true
    → rank_of order r ≡ length (filter (is_child p) order) - (i + 1)
rank-at p order i r up l e child =
    let cs : List Record = filter (is_child p) order in
    let sorted : IsStrictlySortedBy comes_first cs = IsStrictlySortedBy-filter comes_first (is_child p) order up in
    let hang : All (λ s. is_child p s ≡ true) cs = all-passing p order in
    ap (λ q. count_by (λ s. is_child q s && is_in_front r s) order) (same_parent-is r.place.parent p child)
    ∙ count-passing (is_child p) (is_in_front r) order
    ∙ ap (count_by (is_in_front r)) (sym (take_all (length cs) cs (omega arith)))
    ∙ count-behind cs i (length cs) r (omega arith) l e
    (λ j k a b. first-in_front p (get_or cs j r) (get_or cs k r) (hang j r (omega arith)) (hang k r b) (Less-from_sorted comes_first cs j k r sorted a b))

-- the same rank among the records of which it is the order
pub rank-same : (p : Parent) (order rs : List Record) (r : Record) → HavePlaces rs → IsInPlaceOrder order rs → is_child p r ≡ true → rank_of order r ≡ rank_of rs r
rank-same p order rs r places o child =
    let q : Parent = r.place.parent in
    count-passing (is_child q) (is_in_front r) order
    ∙ ap (count_by (is_in_front r)) (children-are q order rs places o)
    ∙ sum_by-IsPermutation (λ s. cond (is_in_front r s) 1 0) (filter (is_child q) rs) (children q rs) (front_first-moves (filter (is_child q) rs))
    ∙ sym (count-passing (is_child q) (is_in_front r) rs)

pub respaced-same : (p : Parent) (order rs : List Record) (r : Record) → HavePlaces rs → IsInPlaceOrder order rs → respaced p order r ≡ respaced p rs r
respaced-same p order rs r places o = elim (cases_Bool (is_child p r)) [
  | inl t ↦ ap (λ b. cond b (record r { place = record r.place { index = fresh_key (rank_of order r) } }) r) t
      ∙ ap (λ n. record r { place = record r.place { index = fresh_key n } }) (rank-same p order rs r places o t)
      ∙ ap (λ b. cond b (record r { place = record r.place { index = fresh_key (rank_of rs r) } }) r) (sym t)
  | inr f ↦ rw f refl
]

pub respaced-child : (p : Parent) (rs : List Record) (r : Record) (n : ℕ) → is_child p r ≡ true → rank_of rs r ≡ n → record r { place = record r.place { index = fresh_key n } } ≡ respaced p rs r
respaced-child p rs r n child e = rw child (ap (λ m. record r { place = record r.place { index = fresh_key m } }) (sym e))

pub respaced-other : (p : Parent) (rs : List Record) (r : Record) → is_child p r ≡ false → respaced p rs r ≡ r
respaced-other p rs r other = rw other refl

pub respaced-id : (p : Parent) (rs : List Record) (r : Record) → (respaced p rs r).id ≡ r.id
respaced-id p rs r = elim (cases_Bool (is_child p r)) [ inl t ↦ rw t refl | inr f ↦ rw f refl ]
