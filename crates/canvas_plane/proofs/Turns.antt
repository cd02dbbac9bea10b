-- Points that are turned round, as the machine keeps them, and their sizes.
use Rattle.std.proofs.Common.{◌≡◌, ◌≢◌, ◌∙◌, ◌≤◌, ◌+◌, ◌%◌, ◌^◌, ℕ, ℤ, pos, negsuc, zero, suc, ◌+ℤ◌, ◌-ℤ◌, max, FitsSigned, w64, arith, ap, refl, sym, subst, true}
use Rattle.std.specs.Prelude.{unsigned_abs}
use Rattle.std.specs.Int.{cast_signed, cast_unsigned}
use Rattle.std.proofs.Math.Nat.{max_comm}
use Rattle.std.proofs.lemmas.Int.{ints, to_z-of_z, fits_signed_from_abs}
use Rattle.canvas_plane.specs.declared.Point.{Point}
use Rattle.canvas_plane.specs.Motion.{negated, turned, flipped, moved, size_of}
use lib.IntN.{neg_ℤ}

-- an integer as 64 bits keep it
abbrev kept : ℤ → ℤ
kept z = cast_signed w64 (cast_unsigned w64 z)

small-kept : (z : ℤ) → unsigned_abs z ≤ 2 ^ 27 → kept z ≡ z
small-kept z h = to_z-of_z w64 z (fits_signed_from_abs w64 z (omega arith))

size-opposite : (z : ℤ) → unsigned_abs (neg_ℤ z) ≡ unsigned_abs z
size-opposite (pos zero) = refl
size-opposite (pos (suc n)) = refl
size-opposite (negsuc n) = refl

minus : (z : ℤ) → pos 0 -ℤ z ≡ neg_ℤ z
minus z = omega (arith, ints)

opposite-kept : (z : ℤ) → unsigned_abs z ≤ 2 ^ 27 → kept (pos 0 -ℤ kept z) ≡ neg_ℤ z
opposite-kept z h =
    let least : unsigned_abs (neg_ℤ z) ≤ 2 ^ 27 = subst (λ n. n ≤ 2 ^ 27) (sym (size-opposite z)) h in
    ap (λ y. kept (pos 0 -ℤ y)) (small-kept z h) ∙ ap kept (minus z) ∙ small-kept (neg_ℤ z) least

max-first : (m n k : ℕ) → max m n ≤ k → m ≤ k
max-first m n k h = omega arith

max-second : (m n k : ℕ) → max m n ≤ k → n ≤ k
max-second m n k h = omega arith

abbrev point : ℤ → ℤ → Point
point x y = record { x = x; y = y }

same-point : (a b c d : ℤ) → a ≡ c → b ≡ d → point a b ≡ point c d
same-point a b c d e f = ap (λ x. point x b) e ∙ ap (λ y. point c y) f

same-max : (a b c d : ℕ) → a ≡ c → b ≡ d → max a b ≡ max c d
same-max a b c d e f = ap (λ m. max m b) e ∙ ap (λ n. max c n) f

small-x : (p : Point) → size_of p ≤ 2 ^ 27 → unsigned_abs p.x ≤ 2 ^ 27
small-x p h = max-first (unsigned_abs p.x) (unsigned_abs p.y) (2 ^ 27) h

small-y : (p : Point) → size_of p ≤ 2 ^ 27 → unsigned_abs p.y ≤ 2 ^ 27
small-y p h = max-second (unsigned_abs p.x) (unsigned_abs p.y) (2 ^ 27) h

pub flipped-kept : (p : Point) → size_of p ≤ 2 ^ 27 → point (kept (pos 0 -ℤ kept p.x)) (kept p.y) ≡ flipped true p
flipped-kept p h = same-point (kept (pos 0 -ℤ kept p.x)) (kept p.y) (neg_ℤ p.x) p.y (opposite-kept p.x (small-x p h)) (small-kept p.y (small-y p h))

pub negated-kept : (p : Point) → size_of p ≤ 2 ^ 27 → point (kept (pos 0 -ℤ kept p.x)) (kept (pos 0 -ℤ kept p.y)) ≡ negated p
negated-kept p h = same-point (kept (pos 0 -ℤ kept p.x)) (kept (pos 0 -ℤ kept p.y)) (neg_ℤ p.x) (neg_ℤ p.y) (opposite-kept p.x (small-x p h)) (opposite-kept p.y (small-y p h))

pub turned-kept : (p : Point) → size_of p ≤ 2 ^ 27 → point (kept (pos 0 -ℤ kept p.y)) (kept p.x) ≡ turned 1 p
turned-kept p h = same-point (kept (pos 0 -ℤ kept p.y)) (kept p.x) (neg_ℤ p.y) p.x (opposite-kept p.y (small-y p h)) (small-kept p.x (small-x p h))

pub size-flipped : (p : Point) → size_of (flipped true p) ≡ size_of p
size-flipped p = ap (λ m. max m (unsigned_abs p.y)) (size-opposite p.x)

pub size-negated : (p : Point) → size_of (negated p) ≡ size_of p
size-negated p = same-max (unsigned_abs (neg_ℤ p.x)) (unsigned_abs (neg_ℤ p.y)) (unsigned_abs p.x) (unsigned_abs p.y) (size-opposite p.x) (size-opposite p.y)

pub size-turned : (p : Point) → size_of (turned 1 p) ≡ size_of p
size-turned p = ap (λ m. max m (unsigned_abs p.x)) (size-opposite p.y) ∙ max_comm (unsigned_abs p.y) (unsigned_abs p.x)

odd-more : (q : ℕ) → q ≤ 3 → 2 ≤ q → q % 2 ≡ 1 → q ≡ 3
odd-more q h k e = omega arith

even-more : (q : ℕ) → q ≤ 3 → 2 ≤ q → q % 2 ≢ 1 → q ≡ 2
even-more q h k e = omega arith

-- a half turn after a quarter is three quarters, and else two
pub turned-odd : (q : ℕ) (p : Point) → q ≤ 3 → 2 ≤ q → q % 2 ≡ 1 → negated (turned 1 p) ≡ turned q p
turned-odd q p h k e = sym (ap (λ n. turned n p) (odd-more q h k e))

pub turned-even : (q : ℕ) (p : Point) → q ≤ 3 → 2 ≤ q → q % 2 ≢ 1 → negated p ≡ turned q p
turned-even q p h k e = sym (ap (λ n. turned n p) (even-more q h k e))

size-sum : (z by : ℤ) → unsigned_abs (z +ℤ by) ≤ unsigned_abs z + unsigned_abs by
size-sum z by = omega (arith, ints)

sum-fits : (z by : ℤ) → unsigned_abs z ≤ 2 ^ 27 → unsigned_abs by ≤ 2 ^ 26 → FitsSigned w64 (z +ℤ by)
sum-fits z by h k =
    let s = size-sum z by in
    fits_signed_from_abs w64 (z +ℤ by) (omega arith)

larger : (n : ℕ) → n ≤ 2 ^ 26 → n ≤ 2 ^ 27
larger n h = omega arith

pub place-kept : (by : Point) → size_of by ≤ 2 ^ 26 → point (kept by.x) (kept by.y) ≡ by
place-kept by h =
    let k : size_of by ≤ 2 ^ 27 = larger (size_of by) h in
    same-point (kept by.x) (kept by.y) by.x by.y (small-kept by.x (small-x by k)) (small-kept by.y (small-y by k))

-- the coordinates of a moved point fit 64 bits
pub moved-fits : (by p : Point) → size_of p ≤ 2 ^ 27 → size_of by ≤ 2 ^ 26 → FitsSigned w64 (p.x +ℤ kept by.x) × FitsSigned w64 (p.y +ℤ kept by.y)
moved-fits by p h k =
    let l : size_of by ≤ 2 ^ 27 = larger (size_of by) k in (
      subst (λ z. FitsSigned w64 (p.x +ℤ z)) (sym (small-kept by.x (small-x by l))) (sum-fits p.x by.x (small-x p h) (max-first (unsigned_abs by.x) (unsigned_abs by.y) (2 ^ 26) k)),
      subst (λ z. FitsSigned w64 (p.y +ℤ z)) (sym (small-kept by.y (small-y by l))) (sum-fits p.y by.y (small-y p h) (max-second (unsigned_abs by.x) (unsigned_abs by.y) (2 ^ 26) k)),
    )

max-sum : (a b m n k l : ℕ) → a ≤ m + k → b ≤ n + l → max a b ≤ max m n + max k l
max-sum a b m n k l h i = omega arith

pub size-moved : (by p : Point) → size_of (moved by p) ≤ size_of p + size_of by
size-moved by p = max-sum (unsigned_abs (p.x +ℤ by.x)) (unsigned_abs (p.y +ℤ by.y)) (unsigned_abs p.x) (unsigned_abs p.y) (unsigned_abs by.x) (unsigned_abs by.y) (size-sum p.x by.x) (size-sum p.y by.y)
