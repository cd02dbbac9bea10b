-- Members of lists, also of those in which no item stands twice.
use Rattle.std.proofs.Common.{◌≡◌, ◌≢◌, ℕ, ◌<◌, ◌≤◌, ◌+◌, ◌-◌, ◌==◌, List, [], ◌∷◌, suc, nat_lt, refl, sym, ap, ◌∙◌, arith, inl, inr, ◌⊎◌, length, get_or, set, Some}
use Rattle.std.specs.List.{Contains, insert, remove, slice_get}
use Rattle.std.proofs.Math.ListN.{length-set}
use Rattle.std.proofs.lemmas.Bool.{cases_Bool, eq-eqb, eqb-true, true≢false}
use Rattle.std.proofs.lemmas.Bool.Decides.{nat_tests}
use Rattle.std.proofs.lemmas.List.{get_or_default, get_or-set_other, get_or-set_same}
use Rattle.std.proofs.lemmas.List.Edits.{get_or-insert_above, get_or-insert_at, get_or-insert_below, get_or-remove_above, get_or-remove_below, length-insert, length-remove}
use Rattle.std.proofs.lemmas.Option.{slice_get_cases, slice_get_within}

-- no item stands twice
abbrev pub EachOnce : {X : Type 0} → List X → Type 0
EachOnce {X} xs = (i j : ℕ) (d : X) → i < j → j < length xs → get_or xs i d ≢ get_or xs j d

-- the item at a position is another than that at another position
pub apart : {X : Type 0} (xs : List X) (i j : ℕ) (d : X) → EachOnce xs → i ≢ j → i < length xs → j < length xs → get_or xs i d ≢ get_or xs j d
apart xs i j d once ne a b e = elim (cases_Bool (nat_lt i j)) [
  | inl t ↦ once i j d (grind (arith, nat_tests)) b e
  | inr f ↦ elim (cases_Bool (nat_lt j i)) [
    | inl t ↦ once j i d (grind (arith, nat_tests)) a (sym e)
    | inr g ↦ ne (grind (arith, nat_tests))
  ]
]

module _ {X : Type 0} (xs : List X) (at : ℕ) (r : X) (within : at < length xs) (is : get_or xs at r ≡ r) where
  here : (x : X) → get_or xs at x ≡ r
  here x = get_or_default xs at x r within ∙ is

  pub set-new : (y : X) → Contains (set xs at y) y
  set-new y = (at, (let l : length (set xs at y) ≡ length xs = length-set xs at y in omega arith), get_or-set_same xs at y y within)

  pub set-has : (y x : X) → Contains xs x → x ≢ r → Contains (set xs at y) x
  set-has y x c ne = elim (cases_Bool (c.0 == at)) [
    | inl t ↦ absurd (ne (sym c.2 ∙ ap (λ k. get_or xs k x) (eqb-true c.0 at t) ∙ here x))
    | inr f ↦ (
        let other : c.0 ≢ at = λ e. true≢false (sym (eq-eqb c.0 at e) ∙ f) in
        let l : length (set xs at y) ≡ length xs = length-set xs at y in
        let b : c.0 < length xs = c.1 in
        (c.0, omega arith, get_or-set_other xs at c.0 y x other ∙ c.2))
  ]

  pub set-cases : EachOnce xs → (y x : X) → Contains (set xs at y) x → (x ≡ y) ⊎ (Contains xs x × (x ≢ r))
  set-cases once y x c = elim (cases_Bool (c.0 == at)) [
    | inl t ↦ inl (sym c.2 ∙ ap (λ k. get_or (set xs at y) k x) (eqb-true c.0 at t) ∙ get_or-set_same xs at y x within)
    | inr f ↦ (
        let other : c.0 ≢ at = λ e. true≢false (sym (eq-eqb c.0 at e) ∙ f) in
        let l : length (set xs at y) ≡ length xs = length-set xs at y in
        let m : c.0 < length (set xs at y) = c.1 in
        let b : c.0 < length xs = omega arith in
        let found : get_or xs c.0 x ≡ x = sym (get_or-set_other xs at c.0 y x other) ∙ c.2 in
        inr ((c.0, b, found), (λ e. apart xs c.0 at x once other b within (found ∙ e ∙ sym (here x)))))
  ]

  pub remove-has : (x : X) → Contains xs x → x ≢ r → Contains (remove xs at) x
  remove-has x c ne =
      let l : length (remove xs at) + 1 ≡ length xs = length-remove xs at within in
      let b : c.0 < length xs = c.1 in
      elim (cases_Bool (nat_lt c.0 at)) [
        | inl t ↦ (let before : c.0 < at = grind (arith, nat_tests) in (c.0, omega arith, get_or-remove_below xs at x c.0 before within ∙ c.2))
        | inr f ↦ elim (cases_Bool (c.0 == at)) [
          | inl t ↦ absurd (ne (sym c.2 ∙ ap (λ k. get_or xs k x) (eqb-true c.0 at t) ∙ here x))
          | inr g ↦ (
              let behind : at < c.0 = grind (arith, nat_tests) in
              let next : c.0 - 1 + 1 ≡ c.0 = omega arith in
              (c.0 - 1, omega arith, get_or-remove_above xs at x (c.0 - 1) (omega arith) within ∙ ap (λ k. get_or xs k x) next ∙ c.2))
        ]
      ]

  pub remove-cases : EachOnce xs → (x : X) → Contains (remove xs at) x → Contains xs x × (x ≢ r)
  remove-cases once x c =
      let l : length (remove xs at) + 1 ≡ length xs = length-remove xs at within in
      let b : c.0 < length (remove xs at) = c.1 in
      elim (cases_Bool (nat_lt c.0 at)) [
        | inl t ↦ (
            let before : c.0 < at = grind (arith, nat_tests) in
            let found : get_or xs c.0 x ≡ x = sym (get_or-remove_below xs at x c.0 before within) ∙ c.2 in
            ((c.0, omega arith, found), (λ e. once c.0 at x before within (found ∙ e ∙ sym (here x)))))
        | inr f ↦ (
            let behind : at ≤ c.0 = grind (arith, nat_tests) in
            let found : get_or xs (c.0 + 1) x ≡ x = sym (get_or-remove_above xs at x c.0 behind within) ∙ c.2 in
            ((c.0 + 1, omega arith, found), (λ e. once at (c.0 + 1) x (omega arith) (omega arith) (here x ∙ sym e ∙ sym found))))
      ]

module _ {X : Type 0} (xs : List X) (at : ℕ) (y : X) (bound : at ≤ length xs) where
  pub insert-new : Contains (insert xs at y) y
  insert-new = (at, (let l : length (insert xs at y) ≡ length xs + 1 = length-insert xs at y bound in omega arith), get_or-insert_at xs at y y bound)

  pub insert-has : (x : X) → Contains xs x → Contains (insert xs at y) x
  insert-has x c =
      let l : length (insert xs at y) ≡ length xs + 1 = length-insert xs at y bound in
      let b : c.0 < length xs = c.1 in
      elim (cases_Bool (nat_lt c.0 at)) [
        | inl t ↦ (let before : c.0 < at = grind (arith, nat_tests) in (c.0, omega arith, get_or-insert_below xs at y x c.0 before bound ∙ c.2))
        | inr f ↦ (let behind : at ≤ c.0 = grind (arith, nat_tests) in (c.0 + 1, omega arith, get_or-insert_above xs at y x c.0 behind bound ∙ c.2))
      ]

  pub insert-cases : (x : X) → Contains (insert xs at y) x → (x ≡ y) ⊎ Contains xs x
  insert-cases x c =
      let l : length (insert xs at y) ≡ length xs + 1 = length-insert xs at y bound in
      let b : c.0 < length (insert xs at y) = c.1 in
      elim (cases_Bool (nat_lt c.0 at)) [
        | inl t ↦ (let before : c.0 < at = grind (arith, nat_tests) in inr (c.0, omega arith, sym (get_or-insert_below xs at y x c.0 before bound) ∙ c.2))
        | inr f ↦ elim (cases_Bool (c.0 == at)) [
          | inl t ↦ inl (sym c.2 ∙ ap (λ k. get_or (insert xs at y) k x) (eqb-true c.0 at t) ∙ get_or-insert_at xs at y x bound)
          | inr g ↦ (
              let behind : at ≤ c.0 - 1 = grind (arith, nat_tests) in
              let next : c.0 - 1 + 1 ≡ c.0 = grind (arith, nat_tests) in
              inr (c.0 - 1, omega arith, sym (get_or-insert_above xs at y x (c.0 - 1) behind bound) ∙ ap (λ k. get_or (insert xs at y) k x) next ∙ c.2))
        ]
      ]

-- each item once, and all among others: there are at least as many others
pub as-many : {X : Type 0} (xs ys : List X) → EachOnce xs → ((x : X) → Contains xs x → Contains ys x) → length xs ≤ length ys
as-many [] ys once h = omega arith
as-many (x ∷ xs) ys once h =
    let c = h x (0, omega arith, refl) in
    let less : length xs ≤ length (remove ys c.0) = as-many xs (remove ys c.0) (λ i j d l b. once (suc i) (suc j) d (omega arith) (omega arith))
    (λ y m. remove-has ys c.0 x c.1 c.2 y (h y (suc m.0, (let b : m.0 < length xs = m.1 in omega arith), m.2)) (λ e. once 0 (suc m.0) y (omega arith) (let b : m.0 < length xs = m.1 in omega arith) (sym e ∙ sym m.2))) in
    let long : length (remove ys c.0) + 1 ≡ length ys = length-remove ys c.0 c.1 in
    omega arith

pub item-at : {X : Type 0} (xs : List X) (k : ℕ) → k < length xs → (x : X) × (slice_get xs k ≡ Some x)
item-at xs k below = elim (slice_get_cases xs k).1 [
  | inl here ↦ (here.0, here.2)
  | inr past ↦ let le : length xs ≤ k = past.0 in absurd (omega arith)
]

-- a list as long has an item there, too
pub item-in : {X Y : Type 0} (xs : List X) (ys : List Y) (k : ℕ) (x : X) → length ys ≡ length xs → slice_get xs k ≡ Some x → (y : Y) × (slice_get ys k ≡ Some y)
item-in xs ys k x long e =
    let below : k < length xs = slice_get_within xs k x e in
    item-at ys k (omega arith)
