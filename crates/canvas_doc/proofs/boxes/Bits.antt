-- Bits of words.
use Rattle.std.proofs.Common.{◌≡◌, ℕ, ◌-◌, ◌*◌, ◌/◌, ◌^◌, ◌%◌, ◌<◌, ◌≤◌, Bool, true, false, ◌&&◌, ◌||◌, ◌==◌, refl, ap, ◌∙◌, arith, max, min}
use Rattle.std.specs.Int.{bit_at}
use Rattle.std.specs.Int.RustNames.{bit_or}
use lib.Bits.{bit_and}
use Rattle.std.proofs.lemmas.Bool.Decides.{nat_tests}
use Rattle.std.proofs.lemmas.Nat.Bits.{bit_at_and, bit_at_or, bit_at-lt, bit_at_mask_inside, bit_at_ones, ones_shl, ones_shr}
use Rattle.canvas_shape.specs.Words.{has}
use Rattle.canvas_shape.proofs.Bits.{has-of}

bits-and : (p q : ℕ) → p < 2 → q < 2 → (min p q == 1) ≡ ((p == 1) && (q == 1))
bits-and p q h k = grind (arith, nat_tests)

bits-or : (p q : ℕ) → p < 2 → q < 2 → (max p q == 1) ≡ ((p == 1) || (q == 1))
bits-or p q h k = grind (arith, nat_tests)

pub has-and : (a b i : ℕ) → has (bit_and a b) i ≡ (has a i && has b i)
unfolding has
has-and a b i = ap (λ n. n == 1) (bit_at_and a b i) ∙ bits-and (bit_at a i) (bit_at b i) (bit_at-lt a i) (bit_at-lt b i)

pub has-or : (a b i : ℕ) → has (bit_or a b) i ≡ (has a i || has b i)
unfolding has
has-or a b i = ap (λ n. n == 1) (bit_at_or a b i) ∙ bits-or (bit_at a i) (bit_at b i) (bit_at-lt a i) (bit_at-lt b i)

pub from-on : (bit i : ℕ) → bit < 64 → bit ≤ i → i < 64 → has (18446744073709551615 * 2 ^ bit % 2 ^ 64) i ≡ true
from-on bit i lt low high = ap (λ n. has n i) (ones_shl 64 bit (omega arith)) ∙ has-of (2 ^ 64 - 2 ^ bit) i 1 (bit_at_mask_inside bit 64 i low high)

pub through : (bit i : ℕ) → bit < 64 → i ≤ bit → has (18446744073709551615 / 2 ^ (63 - bit)) i ≡ true
through bit i lt le = ap (λ n. has n i) (ones_shr 64 (63 - bit) (omega arith)) ∙ has-of (2 ^ (64 - (63 - bit)) - 1) i 1 (bit_at_ones (64 - (63 - bit)) i (omega arith))

pub all-ones : (i : ℕ) → i < 64 → has 18446744073709551615 i ≡ true
all-ones i lt = has-of 18446744073709551615 i 1 (bit_at_ones 64 i lt)

pub not-both : (p q : Bool) → (p && q) ≡ false → p ≡ true → q ≡ false
not-both true q e f = e
not-both false q e f = cc

pub either-left : (p q : Bool) → p ≡ true → (p || q) ≡ true
either-left p q e = ap (λ z. z || q) e

pub either-right : (p q : Bool) → q ≡ true → (p || q) ≡ true
either-right true q e = refl
either-right false q e = e
