-- The bits of words.
use Rattle.std.proofs.Common.{◌≡◌, ℕ, zero, suc, ◌+◌, ◌-◌, ◌*◌, ◌/◌, ◌%◌, ◌^◌, ◌<◌, ◌≤◌, Bool, true, false, ◌&&◌, ◌||◌, refl, sym, ap, ◌∙◌, arith}
use Rattle.std.specs.Prelude.{bit_and, bit_or, nat_eq}
use Rattle.std.proofs.lemmas.Nat.{and_mod, and_shr, or_mod, or_shr, pow-add, pow_pos, shr-shr}
use Rattle.canvas_scene.specs.Places.{is_among, is_bit}

one-or : (u v : ℕ) → u < 2 → v < 2 → nat_eq (bit_or u v) 1 ≡ (nat_eq u 1 || nat_eq v 1)
one-or zero zero p q = refl
one-or zero (suc zero) p q = refl
one-or (suc zero) zero p q = refl
one-or (suc zero) (suc zero) p q = refl
one-or (suc (suc u)) v p q = grind arith
one-or zero (suc (suc v)) p q = grind arith
one-or (suc zero) (suc (suc v)) p q = grind arith

one-and : (u v : ℕ) → u < 2 → v < 2 → nat_eq (bit_and u v) 1 ≡ (nat_eq u 1 && nat_eq v 1)
one-and zero zero p q = refl
one-and zero (suc zero) p q = refl
one-and (suc zero) zero p q = refl
one-and (suc zero) (suc zero) p q = refl
one-and (suc (suc u)) v p q = grind arith
one-and zero (suc (suc v)) p q = grind arith
one-and (suc zero) (suc (suc v)) p q = grind arith

-- `|` has the bits of both
pub or-bit : (a b k : ℕ) → is_bit (bit_or a b) k ≡ (is_bit a k || is_bit b k)
or-bit a b k =
    ap (λ n. nat_eq (n % 2) 1) (or_shr a b k)
    ∙ ap (λ n. nat_eq n 1) (or_mod (a / 2 ^ k) (b / 2 ^ k) 1)
    ∙ one-or (a / 2 ^ k % 2) (b / 2 ^ k % 2) (omega arith) (omega arith)

-- `&` has the bits that both have
pub and-bit : (a b k : ℕ) → is_bit (bit_and a b) k ≡ (is_bit a k && is_bit b k)
and-bit a b k =
    ap (λ n. nat_eq (n % 2) 1) (and_shr a b k)
    ∙ ap (λ n. nat_eq n 1) (and_mod (a / 2 ^ k) (b / 2 ^ k) 1)
    ∙ one-and (a / 2 ^ k % 2) (b / 2 ^ k % 2) (omega arith) (omega arith)

first-true : (p q : Bool) → (p && q) ≡ q → q ≡ true → p ≡ true
first-true true q e h = refl
first-true false q e h = e ∙ h

-- a word that `&` leaves has no bit that the other has not
pub has-bit : (a b k : ℕ) → bit_and a b ≡ b → is_bit b k ≡ true → is_bit a k ≡ true
has-bit a b k e h = first-true (is_bit a k) (is_bit b k) (sym (and-bit a b k) ∙ ap (λ n. is_bit n k) e) h

-- ---- the bits from one up to another

half-bit : (n m k : ℕ) → n / 2 ≡ m → is_bit n (suc k) ≡ is_bit m k
half-bit n m k e =
    let next : suc k ≡ 1 + k = omega arith in
    ap (λ i. nat_eq (n / 2 ^ i % 2) 1) next ∙ ap (λ i. nat_eq (i % 2) 1) (sym (shr-shr n 1 k) ∙ ap (λ i. i / 2 ^ k) e)

double : (n : ℕ) → 2 ^ suc n ≡ 2 * 2 ^ n
double n =
    let next : suc n ≡ 1 + n = omega arith in
    ap (λ i. 2 ^ i) next ∙ pow-add 2 1 n

pub no-bit : (k : ℕ) → is_bit 0 k ≡ false
no-bit zero = refl
no-bit (suc k) = half-bit 0 0 k refl ∙ no-bit k

among-next : (f e k : ℕ) → is_among f e k ≡ is_among (suc f) (suc e) (suc k)
among-next f e k = grind arith

among-first : (e k : ℕ) → is_among 0 e k ≡ is_among 0 (suc e) (suc k)
among-first e k = grind arith

pub run-bit : (f e k : ℕ) → f ≤ e → is_bit (2 ^ e - 2 ^ f) k ≡ is_among f e k
run-bit zero zero k h = no-bit k ∙ grind arith
run-bit zero (suc e) zero h = grind (arith, double e, pow_pos e)
run-bit zero (suc e) (suc k) h = half-bit (2 ^ suc e - 1) (2 ^ e - 1) k (omega (arith, double e, pow_pos e)) ∙ run-bit zero e k (omega arith) ∙ among-first e k
run-bit (suc f) zero k h = grind arith
run-bit (suc f) (suc e) zero h = grind (arith, double e, double f)
run-bit (suc f) (suc e) (suc k) h = half-bit (2 ^ suc e - 2 ^ suc f) (2 ^ e - 2 ^ f) k (omega (arith, double e, double f)) ∙ run-bit f e k (omega arith) ∙ among-next f e k

-- a run of no bits
pub empty-run : (f e k : ℕ) → e ≤ f → is_bit 0 k ≡ is_among f e k
empty-run f e k h = no-bit k ∙ grind arith

-- a higher bit stands for more
pub pow_up : (f e : ℕ) → f ≤ e → 2 ^ f ≤ 2 ^ e
pow_up zero e h = pow_pos e
pow_up (suc f) zero h = omega arith
pow_up (suc f) (suc e) h = let r : 2 ^ f ≤ 2 ^ e = pow_up f e (omega arith) in omega (arith, double e, double f)
