-- Odd numbers of places that pass a test.
use Rattle.std.proofs.Common.{◌≡◌, ℕ, zero, suc, ◌+◌, ◌<◌, ◌≤◌, Bool, true, false, refl, sym, ap, ◌∙◌, arith, inl, inr}
use Rattle.std.specs.Prelude.{nat_lt, ◌==◌}
use Rattle.std.proofs.lemmas.Bool.Decides.{nat_tests}
use Rattle.std.proofs.lemmas.Bool.{cases_lt}
use Rattle.canvas_plane.specs.Motion.{not_same}
use Rattle.canvas_shape.specs.Flags.{is_odd_among}
use Rattle.canvas_shape.specs.Words.{has}

pub false-same : (a : Bool) → not_same false a ≡ a
false-same true = refl
false-same false = refl

pub same-false : (a : Bool) → not_same a false ≡ a
same-false true = refl
same-false false = refl

pub not_same-assoc : (a b c : Bool) → not_same a (not_same b c) ≡ not_same (not_same a b) c
not_same-assoc true true true = refl
not_same-assoc true true false = refl
not_same-assoc true false true = refl
not_same-assoc true false false = refl
not_same-assoc false true true = refl
not_same-assoc false true false = refl
not_same-assoc false false true = refl
not_same-assoc false false false = refl

not_same-swap : (a b c d : Bool) → not_same (not_same a b) (not_same c d) ≡ not_same (not_same a c) (not_same b d)
not_same-swap a true true d = refl
not_same-swap a false false d = refl
not_same-swap true true false true = refl
not_same-swap true true false false = refl
not_same-swap false true false true = refl
not_same-swap false true false false = refl
not_same-swap true false true true = refl
not_same-swap true false true false = refl
not_same-swap false false true true = refl
not_same-swap false false true false = refl

pub odd-none : (test : ℕ → Bool) (from : ℕ) → is_odd_among test from 0 ≡ false
unfolding is_odd_among
odd-none test from = refl

pub odd-suc : (test : ℕ → Bool) (from count : ℕ) → is_odd_among test from (suc count) ≡ not_same (test from) (is_odd_among test (suc from) count)
unfolding is_odd_among
odd-suc test from count = refl

-- the same tests at the places give the same
pub odd-same : (s t : ℕ → Bool) (from count : ℕ) → ((i : ℕ) → from ≤ i → i < from + count → s i ≡ t i) → is_odd_among s from count ≡ is_odd_among t from count
odd-same s t from zero h = odd-none s from ∙ sym (odd-none t from)
odd-same s t from (suc n) h =
    odd-suc s from n
    ∙ ap (λ b. not_same b (is_odd_among s (suc from) n)) (h from (omega arith) (omega arith))
    ∙ ap (not_same (t from)) (odd-same s t (suc from) n (λ i le lt. h i (omega arith) (omega arith)))
    ∙ sym (odd-suc t from n)

-- some places and then others
pub odd-parts : (test : ℕ → Bool) (from m n : ℕ) → is_odd_among test from (m + n) ≡ not_same (is_odd_among test from m) (is_odd_among test (from + m) n)
odd-parts test from zero n =
    let e : from ≡ from + 0 = omega arith in
    let z : 0 + n ≡ n = omega arith in
    ap (is_odd_among test from) z ∙ ap (λ k. is_odd_among test k n) e ∙ sym (ap (λ b. not_same b (is_odd_among test (from + 0) n)) (odd-none test from) ∙ false-same (is_odd_among test (from + 0) n))
odd-parts test from (suc m) n =
    let e : suc from + m ≡ from + suc m = omega arith in
    let z : suc m + n ≡ suc (m + n) = omega arith in
    ap (is_odd_among test from) z ∙ odd-suc test from (m + n)
    ∙ ap (not_same (test from)) (odd-parts test (suc from) m n)
    ∙ not_same-assoc (test from) (is_odd_among test (suc from) m) (is_odd_among test (suc from + m) n)
    ∙ ap (λ b. not_same b (is_odd_among test (suc from + m) n)) (sym (odd-suc test from m))
    ∙ ap (λ k. not_same (is_odd_among test from (suc m)) (is_odd_among test k n)) e

-- none of the places pass
pub odd-nowhere : (test : ℕ → Bool) (from count : ℕ) → ((i : ℕ) → from ≤ i → i < from + count → test i ≡ false) → is_odd_among test from count ≡ false
odd-nowhere test from zero h = odd-none test from
odd-nowhere test from (suc n) h =
    odd-suc test from n
    ∙ ap (λ b. not_same b (is_odd_among test (suc from) n)) (h from (omega arith) (omega arith))
    ∙ false-same (is_odd_among test (suc from) n)
    ∙ odd-nowhere test (suc from) n (λ i le lt. h i (omega arith) (omega arith))

-- two tests at once
pub odd-both : (s t : ℕ → Bool) (from count : ℕ) → is_odd_among (λ i. not_same (s i) (t i)) from count ≡ not_same (is_odd_among s from count) (is_odd_among t from count)
odd-both s t from zero =
    odd-none (λ i. not_same (s i) (t i)) from
    ∙ sym (ap (λ b. not_same b (is_odd_among t from 0)) (odd-none s from) ∙ false-same (is_odd_among t from 0) ∙ odd-none t from)
odd-both s t from (suc n) =
    odd-suc (λ i. not_same (s i) (t i)) from n
    ∙ ap (not_same (not_same (s from) (t from))) (odd-both s t (suc from) n)
    ∙ not_same-swap (s from) (t from) (is_odd_among s (suc from) n) (is_odd_among t (suc from) n)
    ∙ ap (λ b. not_same b (not_same (t from) (is_odd_among t (suc from) n))) (sym (odd-suc s from n))
    ∙ ap (not_same (is_odd_among s from (suc n))) (sym (odd-suc t from n))

is-other : (i at : ℕ) → at < i → (i == at) ≡ false
is-other i at lt = grind (arith, nat_tests)

is-other-below : (i at : ℕ) → i < at → (i == at) ≡ false
is-other-below i at lt = grind (arith, nat_tests)

is-one : (at : ℕ) → (at == at) ≡ true
is-one at = grind (arith, nat_tests)

lt-test : (a b : ℕ) → a < b → true ≡ nat_lt a b
lt-test a b h = grind (arith, nat_tests)

le-test : (a b : ℕ) → b ≤ a → false ≡ nat_lt a b
le-test a b h = grind (arith, nat_tests)

-- the one place that passes is before an end and at or behind a place
pub odd-one : (at from count : ℕ) → at < from + count → is_odd_among (λ i. i == at) from count ≡ nat_lt from (suc at)
odd-one at from zero lt = odd-none (λ i. i == at) from ∙ le-test from (suc at) (omega arith)
odd-one at from (suc n) lt = elim (cases_lt at from) [
  | inl h ↦ odd-nowhere (λ i. i == at) from (suc n) (λ i le l. is-other i at (omega arith)) ∙ le-test from (suc at) (omega arith)
  | inr h ↦
      elim (cases_lt from at) [
        | inl b ↦
            odd-suc (λ i. i == at) from n ∙ ap (λ b. not_same b (is_odd_among (λ i. i == at) (suc from) n)) (is-other-below from at b)
            ∙ false-same (is_odd_among (λ i. i == at) (suc from) n) ∙ odd-one at (suc from) n (omega arith) ∙ sym (lt-test (suc from) (suc at) (omega arith)) ∙ lt-test from (suc at) (omega arith)
        | inr b ↦
            let e : from ≡ at = omega arith in
            odd-suc (λ i. i == at) from n ∙ ap (λ b. not_same b (is_odd_among (λ i. i == at) (suc from) n)) (ap (λ k. k == at) e ∙ is-one at)
            ∙ ap (not_same true) (odd-nowhere (λ i. i == at) (suc from) n (λ i le l. is-other i at (omega arith))) ∙ lt-test from (suc at) (omega arith)
      ]
]

-- a word that has the odd numbers of so many bits, folded by so many places, has those of twice as many
pub fold-step : (test : ℕ → Bool) (word folded by both : ℕ) → by + by ≡ both → ((i : ℕ) → has word i ≡ is_odd_among test i by) → ((i : ℕ) → has folded i ≡ not_same (has word i) (has word (i + by))) → (i : ℕ) → has folded i ≡ is_odd_among test i both
fold-step test word folded by both e h f i =
    f i ∙ ap (λ b. not_same b (has word (i + by))) (h i) ∙ ap (not_same (is_odd_among test i by)) (h (i + by))
    ∙ sym (odd-parts test i by by) ∙ ap (is_odd_among test i) e

pub fold-first : (test : ℕ → Bool) (i : ℕ) → test i ≡ is_odd_among test i 1
fold-first test i = sym (odd-suc test i 0 ∙ ap (not_same (test i)) (odd-none test (suc i)) ∙ same-false (test i))
