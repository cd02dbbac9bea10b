-- Bits of words as tests.
use Rattle.std.proofs.Common.{◌≡◌, ◌≢◌, ℕ, zero, suc, ◌+◌, ◌-◌, ◌/◌, ◌^◌, ◌%◌, ◌<◌, ◌≤◌, Bool, true, false, not, ◌==◌, refl, sym, ap, ◌∙◌, arith, inl, inr}
use Rattle.std.specs.Int.{bit_at, trailing_zeros, w64}
use Rattle.std.specs.Int.RustNames.{bit_xor}
use Rattle.std.proofs.lemmas.Bool.{cases_eq}
use Rattle.std.proofs.lemmas.Bool.Decides.{nat_tests}
use Rattle.std.proofs.lemmas.Nat.Bits.{bit_at_xor, bit_at_not, bit_at-lt, bit_at-zero, bit_at_lowest, bit_at_above, bit_at-pow_same, bit_at-pow_other, bit_at-trailing_zeros}
use Rattle.std.proofs.Math.Nat.{div-div-eq-div-mul}
use Rattle.std.proofs.lemmas.Nat.{pow-add}
use Rattle.canvas_plane.specs.Motion.{not_same}
use Rattle.canvas_shape.specs.Words.{has}

bits-xor : (p q : ℕ) → p < 2 → q < 2 → ((p + q) % 2 == 1) ≡ not_same (p == 1) (q == 1)
bits-xor zero zero h k = refl
bits-xor zero (suc zero) h k = refl
bits-xor (suc zero) zero h k = refl
bits-xor (suc zero) (suc zero) h k = refl
bits-xor (suc (suc p)) q h k = absurd (omega arith)
bits-xor zero (suc (suc q)) h k = absurd (omega arith)
bits-xor (suc zero) (suc (suc q)) h k = absurd (omega arith)

bits-not : (p : ℕ) → p < 2 → (1 - p == 1) ≡ not (p == 1)
bits-not zero h = refl
bits-not (suc zero) h = refl
bits-not (suc (suc p)) h = absurd (omega arith)

pub has-xor : (a b i : ℕ) → has (bit_xor a b) i ≡ not_same (has a i) (has b i)
unfolding has
has-xor a b i = ap (λ n. n == 1) (bit_at_xor a b i) ∙ bits-xor (bit_at a i) (bit_at b i) (bit_at-lt a i) (bit_at-lt b i)

pub has-not : (a i : ℕ) → a < 2 ^ 64 → i < 64 → has (18446744073709551615 - a) i ≡ not (has a i)
unfolding has
has-not a i lt h = ap (λ n. n == 1) (bit_at_not w64 a i lt h) ∙ bits-not (bit_at a i) (bit_at-lt a i)

pub has-of : (n i b : ℕ) → bit_at n i ≡ b → has n i ≡ (b == 1)
unfolding has
has-of n i b e = ap (λ m. m == 1) e

pub has-zero : (i : ℕ) → has 0 i ≡ false
has-zero i = has-of 0 i 0 (bit_at-zero i)

pub has-above : (n i : ℕ) → n < 2 ^ 64 → 64 ≤ i → has n i ≡ false
has-above n i lt le = has-of n i 0 (bit_at_above n 64 i lt le)

bit-shift : (n by i : ℕ) → bit_at (n / 2 ^ by) i ≡ bit_at n (i + by)
bit-shift n by i =
    let e : by + i ≡ i + by = omega arith in
    ap (λ m. m % 2) (div-div-eq-div-mul n (2 ^ by) (2 ^ i)) ∙ ap (λ m. n / m % 2) (sym (pow-add 2 by i)) ∙ ap (λ m. n / 2 ^ m % 2) e

pub has-shift : (n by i : ℕ) → has (n / 2 ^ by) i ≡ has n (i + by)
unfolding has
has-shift n by i = ap (λ m. m == 1) (bit-shift n by i)

eq-same : (k i : ℕ) → i ≡ k → true ≡ (i == k)
eq-same k i e = grind (arith, nat_tests)

eq-other : (k i : ℕ) → i ≢ k → false ≡ (i == k)
eq-other k i e = grind (arith, nat_tests)

pub has-pow : (k i : ℕ) → has (2 ^ k) i ≡ (i == k)
has-pow k i = elim (cases_eq i k) [
  | inl e ↦ ap (has (2 ^ k)) e ∙ has-of (2 ^ k) k 1 (bit_at-pow_same k) ∙ eq-same k i e
  | inr ne ↦ has-of (2 ^ k) i 0 (bit_at-pow_other k i ne) ∙ eq-other k i ne
]

pub has-first : (n : ℕ) → has n 0 ≡ (n % 2 == 1)
has-first n = has-of n 0 (n % 2) (bit_at_lowest n)

pub turned : (a b : Bool) → b ≡ true → not a ≡ not_same a b
turned true true e = refl
turned false true e = refl
turned true false e = cc
turned false false e = cc

pub unturned : (a b : Bool) → b ≡ false → a ≡ not_same a b
unturned true false e = refl
unturned false false e = refl
unturned true true e = cc
unturned false true e = cc

pub lowest-there : (n : ℕ) → 0 < n → n < 2 ^ 64 → has n (trailing_zeros w64 n) ≡ true
lowest-there n some fits = has-of n (trailing_zeros w64 n) 1 (bit_at-trailing_zeros w64 n some fits).1

pub lowest-before : (n : ℕ) → 0 < n → n < 2 ^ 64 → (i : ℕ) → i < trailing_zeros w64 n → has n i ≡ false
lowest-before n some fits i lt = has-of n i 0 ((bit_at-trailing_zeros w64 n some fits).2 i lt)
