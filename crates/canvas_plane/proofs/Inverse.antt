-- What a pose carries, its inverse carries back.
use Rattle.std.proofs.Common.{◌≡◌, ℕ, zero, suc, ◌≤◌, ℤ, Bool, true, false, arith, ap, refl, ◌∙◌}
use Rattle.std.proofs.lemmas.Int.{ints}
use Rattle.canvas_plane.specs.declared.Point.{Point}
use Rattle.canvas_plane.specs.declared.Pose.{Pose}
use Rattle.canvas_plane.specs.Motion.{flipped, turned, moved, negated, place_of, carry, turns_of, turns_back}
use Rattle.canvas_plane.proofs.Composition.{flipped-flipped, flipped-moved, turned-flipped-turned, turned-moved}

point-eq : (p q : Point) → p.x ≡ q.x → p.y ≡ q.y → p ≡ q
point-eq p q e f =
    let across : ℤ → Point = λ x. record { x = x; y = p.y } in
    let down : ℤ → Point = λ y. record { x = q.x; y = y } in
    ap across e ∙ ap down f

-- there and back, as turns and translations
abbrev back : Bool → ℕ → Point → Point → Point
back f n t p = moved (negated (turned (turns_back f n) (flipped f t))) (turned (turns_back f n) (flipped f (moved t (turned n (flipped f p)))))

-- back and there
abbrev forth : Bool → ℕ → Point → Point → Point
forth f n t p = moved t (turned n (flipped f (moved (negated (turned (turns_back f n) (flipped f t))) (turned (turns_back f n) (flipped f p)))))

no-turns : (f : Bool) (n : ℕ) → n ≤ 3 → (turns_back f n ≤ 3) × (turns_of f n (turns_back f n) ≡ 0) × (turns_of f (turns_back f n) n ≡ 0)
no-turns false zero h = (omega arith, refl, refl)
no-turns false (suc zero) h = (omega arith, refl, refl)
no-turns false (suc (suc zero)) h = (omega arith, refl, refl)
no-turns false (suc (suc (suc zero))) h = (omega arith, refl, refl)
no-turns false (suc (suc (suc (suc n)))) h = absurd (omega arith)
no-turns true zero h = (omega arith, refl, refl)
no-turns true (suc zero) h = (omega arith, refl, refl)
no-turns true (suc (suc zero)) h = (omega arith, refl, refl)
no-turns true (suc (suc (suc zero))) h = (omega arith, refl, refl)
no-turns true (suc (suc (suc (suc n)))) h = absurd (omega arith)

flipped-twice : (f : Bool) (p : Point) → flipped f (flipped f p) ≡ p
flipped-twice false p = refl
flipped-twice true p = flipped-flipped true true p

turned-back : (f : Bool) (n : ℕ) (p : Point) → n ≤ 3 → turned (turns_back f n) (flipped f (turned n (flipped f p))) ≡ p
turned-back f n p h =
    let e = no-turns f n h in
    turned-flipped-turned f n (turns_back f n) (flipped f p) h e.0 ∙ ap (λ k. turned k (flipped f (flipped f p))) e.1 ∙ flipped-twice f p

turned-forth : (f : Bool) (n : ℕ) (p : Point) → n ≤ 3 → turned n (flipped f (turned (turns_back f n) (flipped f p))) ≡ p
turned-forth f n p h =
    let e = no-turns f n h in
    turned-flipped-turned f (turns_back f n) n (flipped f p) e.0 h ∙ ap (λ k. turned k (flipped f (flipped f p))) e.2 ∙ flipped-twice f p

moved-back : (u p : Point) → moved (negated u) (moved u p) ≡ p
moved-back u p = point-eq (moved (negated u) (moved u p)) p (omega (arith, ints)) (omega (arith, ints))

moved-forth : (u p : Point) → moved u (moved (negated u) p) ≡ p
moved-forth u p = point-eq (moved u (moved (negated u) p)) p (omega (arith, ints)) (omega (arith, ints))

flipped-negated : (f : Bool) (p : Point) → flipped f (negated p) ≡ negated (flipped f p)
flipped-negated false p = refl
flipped-negated true p = refl

turned-negated : (n : ℕ) (p : Point) → turned n (negated p) ≡ negated (turned n p)
turned-negated zero p = refl
turned-negated (suc n) p = ap (turned 1) (turned-negated n p)

-- a flip and turns of a point that was moved
all-moved : (f : Bool) (n : ℕ) (by p : Point) → turned n (flipped f (moved by p)) ≡ moved (turned n (flipped f by)) (turned n (flipped f p))
all-moved f n by p = ap (turned n) (flipped-moved f by p) ∙ turned-moved n (flipped f by) (flipped f p)

back-same : (f : Bool) (n : ℕ) (t p : Point) → n ≤ 3 → back f n t p ≡ p
back-same f n t p h =
    let u = turned (turns_back f n) (flipped f t) in
    ap (moved (negated u)) (all-moved f (turns_back f n) t (turned n (flipped f p)) ∙ ap (moved u) (turned-back f n p h)) ∙ moved-back u p

forth-same : (f : Bool) (n : ℕ) (t p : Point) → n ≤ 3 → forth f n t p ≡ p
forth-same f n t p h =
    let u = turned (turns_back f n) (flipped f t) in
    let v = turned (turns_back f n) (flipped f p) in
    let w : turned n (flipped f (negated u)) ≡ negated t = ap (turned n) (flipped-negated f u) ∙ turned-negated n (flipped f u) ∙ ap negated (turned-forth f n t h) in
    ap (moved t) (all-moved f n (negated u) v ∙ (λ i. moved (w i) (turned-forth f n p h i))) ∙ moved-forth t p

-- the parts of an inverse
pub record IsInverse (a r : Pose) : Type 0 where
  pub place : place_of r ≡ negated (turned (turns_back a.flip a.quarter) (flipped a.flip (place_of a)))
  pub quarter : r.quarter ≡ turns_back a.flip a.quarter
  pub flip : r.flip ≡ a.flip

-- what it does to a point
inverse-carries : (a r : Pose) (p : Point) → IsInverse a r → carry r p ≡ moved (negated (turned (turns_back a.flip a.quarter) (flipped a.flip (place_of a)))) (turned (turns_back a.flip a.quarter) (flipped a.flip p))
inverse-carries a r p i = ap (λ t. moved t (turned r.quarter (flipped r.flip p))) i.place
    ∙ ap (λ n. moved (negated (turned (turns_back a.flip a.quarter) (flipped a.flip (place_of a)))) (turned n (flipped r.flip p))) i.quarter
    ∙ ap (λ f. moved (negated (turned (turns_back a.flip a.quarter) (flipped a.flip (place_of a)))) (turned (turns_back a.flip a.quarter) (flipped f p))) i.flip

pub undoes : (a r : Pose) (p : Point) → a.quarter ≤ 3 → IsInverse a r → carry r (carry a p) ≡ p
undoes a r p h i = inverse-carries a r (carry a p) i ∙ back-same a.flip a.quarter (place_of a) p h

pub undone : (a r : Pose) (p : Point) → a.quarter ≤ 3 → IsInverse a r → carry a (carry r p) ≡ p
undone a r p h i = ap (carry a) (inverse-carries a r p i) ∙ forth-same a.flip a.quarter (place_of a) p h
