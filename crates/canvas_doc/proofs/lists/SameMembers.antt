-- Lists with the same members.
use Rattle.std.proofs.Common.{◌≡◌, ℕ, zero, suc, ◌<◌, List, [], ◌∷◌, ◌++◌, Bool, true, refl, sym, ap, ◌∙◌, arith, filter, length, get_or, All, cond, false}
use Rattle.std.specs.List.{Contains}
use Rattle.std.proofs.lemmas.List.{append-nil}
use Rattle.canvas_record.specs.declared.records.Record.{Record}
use Rattle.std.proofs.lemmas.List.Elements.{All-head, All-tail, All-filter, filter_passes}

-- what is found step by step, where neither the order of two steps nor a step taken twice matters, is the same for the same members
module _ {X B : Type 0} (f : List X → B) (step : X → B → B)
    (each : (x : X) (xs : List X) → f (x ∷ xs) ≡ step x (f xs))
    (turn : (x y : X) (b : B) → step x (step y b) ≡ step y (step x b))
    (twice : (x : X) (b : B) → step x (step x b) ≡ step x b) where
  again : (xs : List X) (k : ℕ) (x : X) → k < length xs → get_or xs k x ≡ x → step x (f xs) ≡ f xs
  again [] k x h e = absurd (omega arith)
  again (y ∷ xs) zero x h e = ap (λ z. step z (f (y ∷ xs))) (sym e) ∙ ap (step y) (each y xs) ∙ twice y (f xs) ∙ sym (each y xs)
  again (y ∷ xs) (suc k) x h e = ap (step x) (each y xs) ∙ turn x y (f xs) ∙ ap (step y) (again xs k x (omega arith) e) ∙ sym (each y xs)

  added : (ys xs : List X) → All (Contains xs) ys → f (ys ++ xs) ≡ f xs
  added [] xs h = refl
  added (y ∷ ys) xs h =
      let here : Contains xs y = All-head (Contains xs) y ys h in
      each y (ys ++ xs) ∙ ap (step y) (added ys xs (All-tail (Contains xs) y ys h)) ∙ again xs here.0 y here.1 here.2

  moved : (xs ys : List X) (x : X) → f (xs ++ x ∷ ys) ≡ step x (f (xs ++ ys))
  moved [] ys x = each x ys
  moved (z ∷ xs) ys x = each z (xs ++ x ∷ ys) ∙ ap (step z) (moved xs ys x) ∙ turn z x (f (xs ++ ys)) ∙ ap (step x) (sym (each z (xs ++ ys)))

  swapped : (xs ys : List X) → f (xs ++ ys) ≡ f (ys ++ xs)
  swapped [] ys = ap f (sym (append-nil ys))
  swapped (x ∷ xs) ys = each x (xs ++ ys) ∙ ap (step x) (swapped xs ys) ∙ sym (moved ys xs x)

  pub same-members : (xs ys : List X) → All (Contains ys) xs → All (Contains xs) ys → f xs ≡ f ys
  same-members xs ys h k = sym (added ys xs k) ∙ swapped ys xs ∙ added xs ys h

pub contains-later : {X : Type 0} (y : X) (xs : List X) (x : X) → Contains xs x → Contains (y ∷ xs) x
contains-later y xs x h = let l : h.0 < length xs = h.1 in (suc h.0, omega arith, h.2)

pub contains-first : {X : Type 0} (y : X) (xs : List X) (x : X) → y ≡ x → Contains (y ∷ xs) x
contains-first y xs x e = (zero, omega arith, e)

-- a record that passes a test is among those that pass it
pub passing-has : (q : Record → Bool) (rs : List Record) (k : ℕ) (r : Record) → k < length rs → get_or rs k r ≡ r → q r ≡ true → Contains (filter q rs) r
passing-has q [] k r l e t = absurd (omega arith)
passing-has q (s ∷ rs) zero r l e t =
    let passes : q s ≡ true = ap q e ∙ t in
    rw passes (0, omega arith, e)
passing-has q (s ∷ rs) (suc k) r l e t =
    let c = passing-has q rs k r (omega arith) e t in
    elim (q s) as (λ b. Contains (cond b (s ∷ filter q rs) (filter q rs)) r) [ true ↦ (suc c.0, omega (arith, c.1), c.2) | false ↦ c ]

-- a member that passes a test
pub Contains-filter : (t : Record → Bool) (xs : List Record) (x : Record) → Contains xs x → t x ≡ true → Contains (filter t xs) x
Contains-filter t xs x h p = passing-has t xs h.0 x h.1 h.2 p

pub filter-members : (t : Record → Bool) (xs ys : List Record) → All (Contains ys) xs → All (Contains (filter t ys)) (filter t xs)
filter-members t xs ys h = λ k d l. Contains-filter t ys (get_or (filter t xs) k d) (All-filter t (Contains ys) xs h k d l) (filter_passes t xs k d l)
