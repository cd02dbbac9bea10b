-- A stable sort by id gives the records in rising id.
use Rattle.std.proofs.Common.{◌≡◌, ℕ, suc, ◌<◌, ◌≤◌, ◌==◌, ◌&&◌, not, nat_lt, nat_cmp, List, [], ◌∷◌, Bool, true, false, cond, refl, sym, ap, ◌∙◌, arith, inl, inr, filter}
use Rattle.std.specs.List.{AllByRecursion}
use Rattle.std.specs.List.Sorted.{IsNonDecreasingBy, IsStableByKey, ties}
use Rattle.std.specs.Ordering.{is_lt}
use Rattle.std.proofs.lemmas.Bool.{cases_Bool, eq-eqb, eqb-true}
use Rattle.std.proofs.lemmas.Bool.Decides.{nat_tests}
use Rattle.std.proofs.lemmas.List.Elements.{recursion_from_All, filter_agree}
use Rattle.canvas_record.specs.declared.records.Record.{Record}
use Rattle.canvas_record.specs.Restored.{put_by_id, by_id}
use Rattle.canvas_doc.proofs.restoring.ById.{put-all}

-- no id is above a later one
abbrev AreInOrder : List Record → Type 0
AreInOrder [] = Unit {0}
AreInOrder (r ∷ rs) = AllByRecursion (λ (s : Record). r.id ≤ s.id) rs × AreInOrder rs

-- those with the id of x
abbrev alike : Record → List Record → List Record
alike x rs = filter (λ r. r.id == x.id) rs

self-eq : (n : ℕ) → (n == n) ≡ true
self-eq n = eq-eqb n n refl

differ : (m n : ℕ) → m < n → ((m == n) ≡ false) × ((n == m) ≡ false)
differ m n h = (grind (arith, nat_tests), grind (arith, nat_tests))

none-alike : (x : Record) (ys : List Record) → AllByRecursion (λ (s : Record). x.id < s.id) ys → alike x ys ≡ []
none-alike x [] a = refl
none-alike x (y ∷ ys) a = let e : (y.id == x.id) ≡ false = (differ x.id y.id a.0).1 in rw e (none-alike x ys a.1)

above-all : (m n : ℕ) (ys : List Record) → m < n → AllByRecursion (λ (s : Record). n ≤ s.id) ys → AllByRecursion (λ (s : Record). m < s.id) ys
above-all m n [] h a = tt
above-all m n (y ∷ ys) h a = (omega (arith, a.0), above-all m n ys h a.1)

-- a record cannot stand in one list alone
not-below : (x y : Record) (xs ys : List Record) → x.id < y.id → AllByRecursion (λ (s : Record). y.id ≤ s.id) ys → alike x (x ∷ xs) ≡ alike x (y ∷ ys) → ⊥
not-below x y xs ys h a e =
    let own : (x.id == x.id) ≡ true = self-eq x.id in
    let none : alike x (y ∷ ys) ≡ [] = none-alike x (y ∷ ys) (h, above-all x.id y.id ys h a) in
    let one : alike x (x ∷ xs) ≡ x ∷ alike x xs = rw own refl in
    let both : x ∷ alike x xs ≡ [] = sym one ∙ e ∙ none in
    cc

not-empty : (x : Record) (xs : List Record) → alike x (x ∷ xs) ≡ [] → ⊥
not-empty x xs e =
    let own : (x.id == x.id) ≡ true = self-eq x.id in
    let one : alike x (x ∷ xs) ≡ x ∷ alike x xs = rw own refl in
    let both : x ∷ alike x xs ≡ [] = sym one ∙ e in
    cc

tail-alike : (x y : Record) (xs ys : List Record) (b : Bool) → x ≡ y → cond b (x ∷ xs) xs ≡ cond b (y ∷ ys) ys → xs ≡ ys
tail-alike x y xs ys true h e = cc
tail-alike x y xs ys false h e = e

-- two lists in order are one if they have the same records of each id in the same order
same-in-order : (xs ys : List Record) → AreInOrder xs → AreInOrder ys → ((x : Record) → alike x xs ≡ alike x ys) → xs ≡ ys
same-in-order [] [] a b f = refl
same-in-order [] (y ∷ ys) a b f = absurd (not-empty y ys (sym (f y)))
same-in-order (x ∷ xs) [] a b f = absurd (not-empty x xs (f x))
same-in-order (x ∷ xs) (y ∷ ys) a b f = elim (cases_Bool (nat_lt x.id y.id)) [
  | inl t ↦ (let l : x.id < y.id = grind (arith, nat_tests) in absurd (not-below x y xs ys l b.0 (f x)))
  | inr e ↦ elim (cases_Bool (nat_lt y.id x.id)) [
    | inl t ↦ (let l : y.id < x.id = grind (arith, nat_tests) in absurd (not-below y x ys xs l a.0 (sym (f y))))
    | inr g ↦ (let m : y.id ≡ x.id = grind (arith, nat_tests) in
        let own : (x.id == x.id) ≡ true = self-eq x.id in
        let other : (y.id == x.id) ≡ true = eq-eqb y.id x.id m in
        let left : alike x (x ∷ xs) ≡ x ∷ alike x xs = rw own refl in
        let right : alike x (y ∷ ys) ≡ y ∷ alike x ys = rw other refl in
        let heads : x ∷ alike x xs ≡ y ∷ alike x ys = sym left ∙ f x ∙ right in
        let same : x ≡ y = cc in
        let rest : xs ≡ ys = same-in-order xs ys a.1 b.1 (λ z.
        let e : (y.id == z.id) ≡ (x.id == z.id) = ap (λ (s : Record). s.id == z.id) (sym same) in
        tail-alike x y (alike z xs) (alike z ys) (x.id == z.id) same (f z ∙ ap (λ c. cond c (y ∷ alike z ys) (alike z ys)) e)) in
        cc)
  ]
]

at-least : (m n : ℕ) (ys : List Record) → m ≤ n → AllByRecursion (λ (s : Record). n ≤ s.id) ys → AllByRecursion (λ (s : Record). m ≤ s.id) ys
at-least m n [] h a = tt
at-least m n (y ∷ ys) h a = (omega (arith, a.0), at-least m n ys h a.1)

order-put : (r : Record) (l : List Record) → AreInOrder l → AreInOrder (put_by_id r l)
order-put r [] a = (tt, tt)
order-put r (s ∷ rest) a = elim (cases_Bool (nat_lt s.id r.id)) [
  | inl t ↦ (let h : s.id ≤ r.id = grind (arith, nat_tests) in rw t (put-all (λ (x : Record). s.id ≤ x.id) r rest h a.0, order-put r rest a.1))
  | inr f ↦ (let h : r.id ≤ s.id = grind (arith, nat_tests) in rw f ((h, at-least r.id s.id rest h a.0), a))
]

order-by_id : (rs : List Record) → AreInOrder (by_id rs)
order-by_id [] = tt
order-by_id (r ∷ rs) = order-put r (by_id rs) (order-by_id rs)

swap-alike : (r s : Record) (rest : List Record) (a b : Bool) → (a ≡ true → b ≡ true → ⊥) → cond a (s ∷ cond b (r ∷ rest) rest) (cond b (r ∷ rest) rest) ≡ cond b (r ∷ cond a (s ∷ rest) rest) (cond a (s ∷ rest) rest)
swap-alike r s rest true true h = absurd (h refl refl)
swap-alike r s rest true false h = refl
swap-alike r s rest false true h = refl
swap-alike r s rest false false h = refl

alike-put : (x r : Record) (l : List Record) → alike x (put_by_id r l) ≡ alike x (r ∷ l)
alike-put x r [] = refl
alike-put x r (s ∷ rest) = elim (cases_Bool (nat_lt s.id r.id)) [
  | inl t ↦ (let l : s.id < r.id = grind (arith, nat_tests) in
      rw t (ap (λ k. cond (s.id == x.id) (s ∷ k) k) (alike-put x r rest)
      ∙ swap-alike r s (alike x rest) (s.id == x.id) (r.id == x.id) (λ e f. let m : s.id ≡ x.id = eqb-true s.id x.id e in let n : r.id ≡ x.id = eqb-true r.id x.id f in omega arith)))
  | inr f ↦ rw f refl
]

alike-by_id : (x : Record) (rs : List Record) → alike x (by_id rs) ≡ alike x rs
alike-by_id x [] = refl
alike-by_id x (r ∷ rs) = alike-put x r (by_id rs) ∙ ap (λ k. cond (r.id == x.id) (r ∷ k) k) (alike-by_id x rs)

-- from the clauses of a sort
in-order : (ys : List Record) → IsNonDecreasingBy (λ (r : Record). r.id) ys → AreInOrder ys
in-order [] h = tt
in-order (y ∷ ys) h = (
  recursion_from_All (λ (s : Record). y.id ≤ s.id) ys (λ k d l. h 0 (suc k) d (omega arith) (omega arith)),
  in-order ys (λ i j d a l. h (suc i) (suc j) d (omega arith) (omega arith)),
)

below-cmp : (a b : ℕ) → is_lt (nat_cmp a b) ≡ nat_lt a b
below-cmp a b = elim (cases_Bool (nat_lt a b)) [
  | inl t ↦ rw t refl
  | inr f ↦ rw f (elim (cases_Bool (a == b)) [ inl e ↦ rw e refl | inr e ↦ rw e refl ])
]

neither-below : (a b : ℕ) → (not (nat_lt a b) && not (nat_lt b a)) ≡ (b == a)
neither-below a b = elim (cases_Bool (nat_lt a b)) [
  | inl t ↦ (let e : (b == a) ≡ false = grind (arith, nat_tests) in rw (t, e) refl)
  | inr f ↦ elim (cases_Bool (nat_lt b a)) [
    | inl t ↦ (let e : (b == a) ≡ false = grind (arith, nat_tests) in rw (f, t, e) refl)
    | inr g ↦ (let e : (b == a) ≡ true = grind (arith, nat_tests) in rw (f, g, e) refl)
  ]
]

ties-alike : (x r : Record) → ties (λ (a b : Record). is_lt (nat_cmp a.id b.id)) x r ≡ (r.id == x.id)
ties-alike x r = ap (λ b. not b && not (is_lt (nat_cmp r.id x.id))) (below-cmp x.id r.id) ∙ ap (λ b. not (nat_lt x.id r.id) && not b) (below-cmp r.id x.id) ∙ neither-below x.id r.id

pub sorted-by_id : (rs ys : List Record) → IsNonDecreasingBy (λ (r : Record). r.id) ys → IsStableByKey (λ (r : Record). r.id) nat_cmp rs ys → ys ≡ by_id rs
sorted-by_id rs ys up stable =
    same-in-order ys (by_id rs) (in-order ys up) (order-by_id rs)
    (λ x. sym (filter_agree (ties (λ (a b : Record). is_lt (nat_cmp a.id b.id)) x) (λ r. r.id == x.id) (ties-alike x) ys)
    ∙ stable x
    ∙ filter_agree (ties (λ (a b : Record). is_lt (nat_cmp a.id b.id)) x) (λ r. r.id == x.id) (ties-alike x) rs
    ∙ sym (alike-by_id x rs))
