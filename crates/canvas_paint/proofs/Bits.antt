-- Bits of words as tests.
use Rattle.std.proofs.Common.{◌≡◌, ℕ, zero, suc, ◌+◌, ◌-◌, ◌^◌, ◌%◌, ◌<◌, ◌≤◌, Bool, true, false, not, ◌&&◌, ◌||◌, ◌==◌, subst, refl, sym, ap, ◌∙◌, arith, ⊎_elim, max, min}
use Rattle.std.specs.Int.{bit_at, trailing_zeros, w64}
use Rattle.std.specs.Int.RustNames.{bit_or, bit_xor}
use lib.Bits.{bit_and}
use Rattle.std.proofs.lemmas.Bool.{cases_lt}
use Rattle.std.proofs.lemmas.Bool.Decides.{nat_tests}
use native.Mathlib.Nat.{pow-le-pow_right}
use lib.Count.{trailing_of_zero}
use Rattle.std.proofs.lemmas.Nat.Bits.{bit_at_and, bit_at_or, bit_at_xor, bit_at_not, bit_at-lt, bit_at-zero, bit_at_mask_inside, bit_at_mask_below, bit_at_mask_above, bit_at-trailing_zeros}
use Rattle.canvas_plane.specs.Motion.{not_same}
use Rattle.canvas_shape.specs.Words.{has}
use Rattle.canvas_paint.specs.Words.{is_within, IsWord, IsRun, IsLowest, HasNone}

bits-and : (p q : ℕ) → p < 2 → q < 2 → (min p q == 1) ≡ ((p == 1) && (q == 1))
bits-and p q h k = grind (arith, nat_tests)

bits-not : (p q : ℕ) → p < 2 → q < 2 → (min p (1 - q) == 1) ≡ ((p == 1) && not (q == 1))
bits-not p q h k = grind (arith, nat_tests)

bits-xor : (p q : ℕ) → p < 2 → q < 2 → ((p + q) % 2 == 1) ≡ not_same (p == 1) (q == 1)
bits-xor zero zero h k = refl
bits-xor zero (suc zero) h k = refl
bits-xor (suc zero) zero h k = refl
bits-xor (suc zero) (suc zero) h k = refl
bits-xor (suc (suc p)) q h k = absurd (omega arith)
bits-xor zero (suc (suc q)) h k = absurd (omega arith)
bits-xor (suc zero) (suc (suc q)) h k = absurd (omega arith)

pub has-and : (a b i : ℕ) → has (bit_and a b) i ≡ (has a i && has b i)
unfolding has
has-and a b i = ap (λ n. n == 1) (bit_at_and a b i) ∙ bits-and (bit_at a i) (bit_at b i) (bit_at-lt a i) (bit_at-lt b i)

bits-or : (p q : ℕ) → p < 2 → q < 2 → (max p q == 1) ≡ ((p == 1) || (q == 1))
bits-or p q h k = grind (arith, nat_tests)

pub has-or : (a b i : ℕ) → has (bit_or a b) i ≡ (has a i || has b i)
unfolding has
has-or a b i = ap (λ n. n == 1) (bit_at_or a b i) ∙ bits-or (bit_at a i) (bit_at b i) (bit_at-lt a i) (bit_at-lt b i)

pub has-without : (a b i : ℕ) → b < 2 ^ 64 → i < 64 → has (bit_and a (18446744073709551615 - b)) i ≡ (has a i && not (has b i))
unfolding has
has-without a b i lt h =
    ap (λ n. n == 1) (bit_at_and a (18446744073709551615 - b) i)
    ∙ ap (λ n. min (bit_at a i) n == 1) (bit_at_not w64 b i lt h)
    ∙ bits-not (bit_at a i) (bit_at b i) (bit_at-lt a i) (bit_at-lt b i)

pub has-xor : (a b i : ℕ) → has (bit_xor a b) i ≡ not_same (has a i) (has b i)
unfolding has
has-xor a b i = ap (λ n. n == 1) (bit_at_xor a b i) ∙ bits-xor (bit_at a i) (bit_at b i) (bit_at-lt a i) (bit_at-lt b i)

has-of : (n i b : ℕ) → bit_at n i ≡ b → has n i ≡ (b == 1)
unfolding has
has-of n i b e = ap (λ m. m == 1) e

pub mask-test : (from to i : ℕ) → has (2 ^ to - 2 ^ from) i ≡ is_within from i to
mask-test from to i =
    ⊎_elim
    (λ (lt : i < from). has-of (2 ^ to - 2 ^ from) i 0 (bit_at_mask_below from to i lt) ∙ (let e : false ≡ is_within from i to = grind (arith, nat_tests) in e))
    (λ (ge : from ≤ i).
    ⊎_elim
    (λ (lt : i < to). has-of (2 ^ to - 2 ^ from) i 1 (bit_at_mask_inside from to i ge lt) ∙ (let e : true ≡ is_within from i to = grind (arith, nat_tests) in e))
    (λ (le : to ≤ i). has-of (2 ^ to - 2 ^ from) i 0 (bit_at_mask_above from to i le) ∙ (let e : false ≡ is_within from i to = grind (arith, nat_tests) in e))
    (cases_lt i to))
    (cases_lt i from)

pub has-between : (a b from to i : ℕ) → a + 1 ≡ 2 ^ to → b + 1 ≡ 2 ^ from → has (a - b) i ≡ is_within from i to
has-between a b from to i e f =
    let g : a - b ≡ 2 ^ to - 2 ^ from = omega arith in
    ap (λ n. has n i) g ∙ mask-test from to i

pub has-zero : (i : ℕ) → has 0 i ≡ false
has-zero i = has-of 0 i 0 (bit_at-zero i)

pub lowest-some : (word : ℕ) → 0 < word → word < 2 ^ 64 → IsLowest word (trailing_zeros w64 word)
lowest-some word pos fits =
    let h = bit_at-trailing_zeros w64 word pos fits in
    record {
      within = omega (arith, h.0);
      before = λ i low lt. has-of word i 0 (h.2 i lt);
      there = λ lt. has-of word (trailing_zeros w64 word) 1 h.1;
    }

pub lowest-none : IsLowest 0 64
lowest-none = record { within = omega arith; before = λ i low lt. has-zero i; there = λ lt. absurd (omega arith) }

or-else-and : (p q : Bool) → (p && q) ≡ false → q ≡ true → p ≡ false
or-else-and true true e f = e
or-else-and false q e f = refl
or-else-and true false e f = cc

not-true : (p q : Bool) → (p && not q) ≡ false → p ≡ true → q ≡ true
not-true true true e f = refl
not-true false q e f = cc
not-true true false e f = cc

left-part : (p q : Bool) → (p && q) ≡ true → p ≡ true
left-part true q e = refl
left-part false q e = e

right-part : (p q : Bool) → (p && q) ≡ true → q ≡ true
right-part true q e = e
right-part false q e = cc

-- no pixel of the rest is none from the place on
pub none-from : (word rest mask at : ℕ) → IsWord mask (λ i. is_within at i 64) → IsWord rest (λ i. has word i && has mask i) → IsLowest rest 64 → HasNone word at 64
none-from word rest mask at m r l = λ i low lt.
    let inside : is_within at i 64 ≡ true = grind (arith, nat_tests) in
    or-else-and (has word i) (has mask i) (sym (r i lt) ∙ l.before i (omega arith) lt) (m i lt ∙ inside)

low-of : (at from : ℕ) → is_within at from 64 ≡ true → at ≤ from
low-of at from h = grind (arith, nat_tests)

no-gap : (p q : Bool) → q ≡ true → (p && not q) ≡ true → false ≡ true
no-gap true true e f = f
no-gap true false e f = e
no-gap false q e f = f

within-low : (from i : ℕ) → i < from → is_within from i 64 ≡ false
within-low from i h = grind (arith, nat_tests)

after-from : (word gaps tail from to : ℕ) → has word from ≡ true → from < 64 → IsWord tail (λ i. is_within from i 64) → IsWord gaps (λ i. has tail i && not (has word i)) → IsLowest gaps to → from < to
after-from word gaps tail from to held lt t g u =
    ⊎_elim
    (λ (h : from < to). h)
    (λ (le : to ≤ from).
    let below : to < 64 = omega arith in
    let there : (has tail to && not (has word to)) ≡ true = sym (g to below) ∙ u.there below in
    ⊎_elim
    (λ (h : to < from). let e : false ≡ true = sym (within-low from to h) ∙ sym (t to below) ∙ left-part (has tail to) (not (has word to)) there in let z : from < to = cc in z)
    (λ (h : from ≤ to). let same : to ≡ from = omega arith in let e : false ≡ true = no-gap (has tail to) (has word to) (ap (has word) same ∙ held) there in let z : from < to = cc in z)
    (cases_lt to from))
    (cases_lt from to)

-- the first pixel of the rest, and the first gap after it
pub run-is : (word rest mask gaps tail at from to : ℕ) → IsWord mask (λ i. is_within at i 64) → IsWord rest (λ i. has word i && has mask i) → IsLowest rest from → from < 64 → IsWord tail (λ i. is_within from i 64) → IsWord gaps (λ i. has tail i && not (has word i)) → IsLowest gaps to → IsRun word at from to
run-is word rest mask gaps tail at from to m r l lt t g u =
    let there : (has word from && has mask from) ≡ true = sym (r from lt) ∙ l.there lt in
    let low : at ≤ from = low-of at from (sym (m from lt) ∙ right-part (has word from) (has mask from) there) in
    let held : has word from ≡ true = left-part (has word from) (has mask from) there in
    record {
      low = low;
      some = after-from word gaps tail from to held lt t g u;
      high = u.within;
      before = λ i above below.
          let inside : is_within at i 64 ≡ true = grind (arith, nat_tests) in
          or-else-and (has word i) (has mask i) (sym (r i (omega arith)) ∙ l.before i (omega arith) below) (m i (omega arith) ∙ inside);
      inside = λ i above below.
          let h : i < 64 = omega (arith, u.within) in
          let inside : is_within from i 64 ≡ true = grind (arith, nat_tests) in
          not-true (has tail i) (has word i) (sym (g i h) ∙ u.before i (omega arith) below) (t i h ∙ inside);
    }

pub ones-le : (a b from to : ℕ) → from ≤ to → a + 1 ≡ 2 ^ to → b + 1 ≡ 2 ^ from → b ≤ a
ones-le a b from to h e f = omega (arith, pow-le-pow_right {n = 2} (omega arith) {i = from} {j = to} h)

-- the lowest bit, or 64
pub lowest-is : (word : ℕ) → word < 2 ^ 64 → IsLowest word (trailing_zeros w64 word)
lowest-is zero fits = let e : 64 ≡ trailing_zeros w64 0 = sym (trailing_of_zero 64) in subst (λ n. IsLowest 0 n) e lowest-none
lowest-is (suc n) fits = lowest-some (suc n) (omega arith) fits
