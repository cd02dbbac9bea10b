-- One pose after another is a pose.
use Rattle.std.proofs.Common.{◌≡◌, ℕ, ◌+◌, ◌-◌, ◌≤◌, ◌%◌, Bool, true, false, zero, suc, refl, sym, ap, ◌∙◌, arith, ◌<◌, ◌⊎◌, inl, inr}
use Rattle.std.proofs.lemmas.Bool.{cases_lt}
use Rattle.canvas_plane.specs.declared.Point.{Point}
use Rattle.canvas_plane.specs.declared.Pose.{Pose}
use Rattle.canvas_plane.specs.Motion.{flipped, turned, moved, place_of, carry, turns_of, not_same}
use lib.IntN.{neg_ℤ-neg_ℤ, neg_ℤ-+ℤ, +ℤ_assoc}

-- a flip goes past a translation
pub flipped-moved : (f : Bool) (by p : Point) → flipped f (moved by p) ≡ moved (flipped f by) (flipped f p)
flipped-moved false by p = refl
flipped-moved true by p = rw neg_ℤ-+ℤ refl

-- so do turns
pub turned-moved : (n : ℕ) (by p : Point) → turned n (moved by p) ≡ moved (turned n by) (turned n p)
turned-moved zero by p = refl
turned-moved (suc n) by p = rw (turned-moved n by p, neg_ℤ-+ℤ) refl

pub turned-add : (m n : ℕ) (p : Point) → turned (m + n) p ≡ turned m (turned n p)
turned-add zero n p =
    let e : zero + n ≡ n = omega arith in
    ap (λ k. turned k p) e
turned-add (suc m) n p =
    let e : suc m + n ≡ suc (m + n) = omega arith in
    rw (e, turned-add m n p) refl

-- four turns are none
pub turned-four : (p : Point) → turned 4 p ≡ p
turned-four p = simp neg_ℤ-neg_ℤ

pub moved-moved : (a b p : Point) → moved b (moved a p) ≡ moved (moved b a) p
moved-moved a b p = simp +ℤ_assoc

-- a flip after turns is the turns the other way after a flip
pub flipped-turned : (n : ℕ) (p : Point) → n ≤ 3 → flipped true (turned n p) ≡ turned (4 - n) (flipped true p)
flipped-turned zero p h = sym (turned-four (flipped true p))
flipped-turned (suc zero) p h = simp neg_ℤ-neg_ℤ
flipped-turned (suc (suc zero)) p h = simp neg_ℤ-neg_ℤ
flipped-turned (suc (suc (suc zero))) p h = simp neg_ℤ-neg_ℤ
flipped-turned (suc (suc (suc (suc n)))) p h = absurd (omega arith)

split : (n : ℕ) → n ≤ 7 → (n < 4) ⊎ (4 ≤ n)
split n h = cases_lt n 4

pub flipped-flipped : (f g : Bool) (p : Point) → flipped g (flipped f p) ≡ flipped (not_same f g) p
flipped-flipped false false p = refl
flipped-flipped false true p = refl
flipped-flipped true false p = refl
flipped-flipped true true p = simp neg_ℤ-neg_ℤ

-- turns only count up to four
pub turned-rem : (n : ℕ) (p : Point) → n ≤ 7 → turned (n % 4) p ≡ turned n p
turned-rem n p h = elim (split n h) [
  | inl lt ↦ let e : n % 4 ≡ n = omega arith in ap (λ k. turned k p) e
  | inr more ↦
      let e : n % 4 ≡ n - 4 = omega arith in
      let s : n ≡ (n - 4) + 4 = omega arith in
      ap (λ k. turned k p) e ∙ sym (ap (λ k. turned k p) s ∙ turned-add (n - 4) 4 p ∙ ap (turned (n - 4)) (turned-four p))
]

pub turned-flipped-turned : (f : Bool) (m n : ℕ) (p : Point) → m ≤ 3 → n ≤ 3 → turned n (flipped f (turned m p)) ≡ turned (turns_of f m n) (flipped f p)
turned-flipped-turned false m n p h k =
    let b : m + n ≤ 7 = omega arith in
    let e : n + m ≡ m + n = omega arith in
    sym (turned-rem (m + n) p b ∙ ap (λ j. turned j p) (sym e) ∙ turned-add n m p)
turned-flipped-turned true m n p h k =
    let b : 4 - m + n ≤ 7 = omega arith in
    let e : n + (4 - m) ≡ 4 - m + n = omega arith in
    ap (turned n) (flipped-turned m p h) ∙ sym (turned-rem (4 - m + n) (flipped true p) b ∙ ap (λ j. turned j (flipped true p)) (sym e) ∙ turned-add n (4 - m) (flipped true p))

-- the composition of two poses, given by its parts, carries as one after the other
pub carry-carry : (a b r : Pose) (p : Point) → a.quarter ≤ 3 → b.quarter ≤ 3 → place_of r ≡ carry b (place_of a) → r.quarter ≡ turns_of b.flip a.quarter b.quarter → r.flip ≡ not_same a.flip b.flip → carry r p ≡ carry b (carry a p)
carry-carry a b r p h k place quarter flip =
    let inner = flipped a.flip p in
    let from = turned a.quarter inner in
    let e1 : flipped b.flip (carry a p) ≡ moved (flipped b.flip (place_of a)) (flipped b.flip from) = flipped-moved b.flip (place_of a) from in
    let e2 : turned b.quarter (flipped b.flip (carry a p)) ≡ moved (turned b.quarter (flipped b.flip (place_of a))) (turned b.quarter (flipped b.flip from)) = ap (turned b.quarter) e1 ∙ turned-moved b.quarter (flipped b.flip (place_of a)) (flipped b.flip from) in
    let e3 : turned b.quarter (flipped b.flip from) ≡ turned r.quarter (flipped r.flip p) =
    turned-flipped-turned b.flip a.quarter b.quarter inner h k ∙ ap (λ q. turned q (flipped b.flip inner)) (sym quarter) ∙ ap (turned r.quarter) (flipped-flipped a.flip b.flip p ∙ ap (λ f. flipped f p) (sym flip)) in
    sym (ap (moved (place_of b)) (e2 ∙ ap (moved (turned b.quarter (flipped b.flip (place_of a)))) e3) ∙ moved-moved (turned b.quarter (flipped b.flip (place_of a))) (place_of b) (turned r.quarter (flipped r.flip p)) ∙ ap (λ t. moved t (turned r.quarter (flipped r.flip p))) (sym place))
