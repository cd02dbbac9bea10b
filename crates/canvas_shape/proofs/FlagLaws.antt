-- Which columns edge flags hold.
use Rattle.std.proofs.Common.{◌≡◌, ◌≢◌, ℕ, zero, suc, ◌+◌, ◌-◌, ◌*◌, ◌/◌, ◌%◌, ◌^◌, ◌<◌, ◌≤◌, List, [], ◌∷◌, length, slice_index, slice_set, Bool, false, ◌==◌, refl, sym, ap, ◌∙◌, arith, inl, inr}
use Rattle.std.specs.Prelude.{nat_lt}
use Rattle.std.proofs.lemmas.Bool.{cases_eq}
use Rattle.std.proofs.lemmas.Bool.Decides.{nat_tests}
use Rattle.std.proofs.lemmas.List.{get_or-set_same, get_or-set_other}
use Rattle.canvas_plane.specs.Motion.{not_same}
use Rattle.canvas_shape.specs.Flags.{flag, is_odd_among, is_held}
use Rattle.canvas_shape.specs.Words.{has}
use Rattle.canvas_shape.proofs.Bits.{has-zero, has-above}
use Rattle.canvas_shape.proofs.Odd.{odd-none, odd-suc, odd-same, odd-parts, odd-nowhere, odd-both, odd-one, same-false}

pub held-is : (words : List ℕ) (i : ℕ) → is_held words i ≡ is_odd_among (flag words) i (256 - i)
unfolding is_held
held-is words i = refl

flag-is : (words : List ℕ) (i : ℕ) → flag words i ≡ has (slice_index words (i / 64)) (i % 64)
unfolding flag
flag-is words i = refl

pub flag-at : (words : List ℕ) (k i : ℕ) → i < 64 → flag words (64 * k + i) ≡ has (slice_index words k) i
flag-at words k i lt =
    let word : (64 * k + i) / 64 ≡ k = omega arith in
    let bit : (64 * k + i) % 64 ≡ i = omega arith in
    flag-is words (64 * k + i) ∙ ap (λ n. has (slice_index words n) ((64 * k + i) % 64)) word ∙ ap (has (slice_index words k)) bit

zero-words : (k : ℕ) → slice_index (0 ∷ 0 ∷ 0 ∷ 0 ∷ []) k ≡ 0
zero-words zero = refl
zero-words (suc zero) = refl
zero-words (suc (suc zero)) = refl
zero-words (suc (suc (suc zero))) = refl
zero-words (suc (suc (suc (suc k)))) = refl

pub none-held : (i : ℕ) → is_held (0 ∷ 0 ∷ 0 ∷ 0 ∷ []) i ≡ false
none-held i =
    held-is (0 ∷ 0 ∷ 0 ∷ 0 ∷ []) i
    ∙ odd-nowhere (flag (0 ∷ 0 ∷ 0 ∷ 0 ∷ [])) i (256 - i) (λ j le lt. flag-is (0 ∷ 0 ∷ 0 ∷ 0 ∷ []) j ∙ ap (λ n. has n (j % 64)) (zero-words (j / 64)) ∙ has-zero (j % 64))

-- the same places, counted from another one
odd-moved : (s t : ℕ → Bool) (base from count : ℕ) → ((i : ℕ) → from ≤ i → i < from + count → s (base + i) ≡ t i) → is_odd_among s (base + from) count ≡ is_odd_among t from count
odd-moved s t base from zero h = odd-none s (base + from) ∙ sym (odd-none t from)
odd-moved s t base from (suc n) h =
    let e : suc (base + from) ≡ base + suc from = omega arith in
    odd-suc s (base + from) n
    ∙ ap (λ b. not_same b (is_odd_among s (suc (base + from)) n)) (h from (omega arith) (omega arith))
    ∙ ap (λ k. not_same (t from) (is_odd_among s k n)) e
    ∙ ap (not_same (t from)) (odd-moved s t base (suc from) n (λ i le lt. h i (omega arith) (omega arith)))
    ∙ sym (odd-suc t from n)

-- the flags of a word from one on are its bits
odd-word : (words : List ℕ) (k i : ℕ) → i < 64 → slice_index words k < 2 ^ 64 → is_odd_among (flag words) (64 * k + i) (64 - i) ≡ is_odd_among (has (slice_index words k)) i 64
odd-word words k i lt fits =
    let e : (64 - i) + i ≡ 64 = omega arith in
    odd-moved (flag words) (has (slice_index words k)) (64 * k) i (64 - i) (λ j le below. flag-at words k j (omega arith))
    ∙ sym (same-false (is_odd_among (has (slice_index words k)) i (64 - i)))
    ∙ ap (not_same (is_odd_among (has (slice_index words k)) i (64 - i))) (sym (odd-nowhere (has (slice_index words k)) (i + (64 - i)) i (λ j le below. has-above (slice_index words k) j fits (omega arith))))
    ∙ sym (odd-parts (has (slice_index words k)) i (64 - i) i)
    ∙ ap (is_odd_among (has (slice_index words k)) i) e

-- the columns of a word, from those of the next one
pub word-held : (words : List ℕ) (k i : ℕ) → k < 4 → i < 64 → slice_index words k < 2 ^ 64 → is_held words (64 * k + i) ≡ not_same (is_odd_among (has (slice_index words k)) i 64) (is_held words (64 * (k + 1) + 0))
word-held words k i below lt fits =
    let parts : 256 - (64 * k + i) ≡ (64 - i) + (256 - (64 * (k + 1) + 0)) = omega arith in
    let next : (64 * k + i) + (64 - i) ≡ 64 * (k + 1) + 0 = omega arith in
    held-is words (64 * k + i)
    ∙ ap (is_odd_among (flag words) (64 * k + i)) parts
    ∙ odd-parts (flag words) (64 * k + i) (64 - i) (256 - (64 * (k + 1) + 0))
    ∙ ap (λ b. not_same b (is_odd_among (flag words) ((64 * k + i) + (64 - i)) (256 - (64 * (k + 1) + 0)))) (odd-word words k i lt fits)
    ∙ ap (λ n. not_same (is_odd_among (has (slice_index words k)) i 64) (is_odd_among (flag words) n (256 - (64 * (k + 1) + 0)))) next
    ∙ ap (not_same (is_odd_among (has (slice_index words k)) i 64)) (sym (held-is words (64 * (k + 1) + 0)))

past-end : (words : List ℕ) → is_held words 256 ≡ false
past-end words = held-is words 256 ∙ odd-none (flag words) 256

-- the last word has its own flags alone
pub last-held : (words : List ℕ) (word i : ℕ) → i < 64 → slice_index words 3 < 2 ^ 64 → has word i ≡ is_odd_among (has (slice_index words 3)) i 64 → has word i ≡ is_held words (64 * 3 + i)
last-held words word i lt fits e =
    e ∙ sym (word-held words 3 i (omega arith) lt fits ∙ ap (not_same (is_odd_among (has (slice_index words 3)) i 64)) (past-end words) ∙ same-false (is_odd_among (has (slice_index words 3)) i 64))

-- each other one carries what the next one begins with
pub carried-held : (words : List ℕ) (word own next k i : ℕ) → k < 3 → i < 64 → slice_index words k < 2 ^ 64 → has own i ≡ is_odd_among (has (slice_index words k)) i 64 → has word i ≡ not_same (has own i) (has next 0) → has next 0 ≡ is_held words (64 * (k + 1) + 0) → has word i ≡ is_held words (64 * k + i)
carried-held words word own next k i below lt fits eo ew en =
    ew ∙ ap (λ b. not_same b (has next 0)) eo ∙ ap (not_same (is_odd_among (has (slice_index words k)) i 64)) en ∙ sym (word-held words k i (omega arith) lt fits)

-- all four
pub four-held : (words : List ℕ) (a b c d : ℕ) → ((i : ℕ) → i < 64 → has a i ≡ is_held words (64 * 0 + i)) → ((i : ℕ) → i < 64 → has b i ≡ is_held words (64 * 1 + i)) → ((i : ℕ) → i < 64 → has c i ≡ is_held words (64 * 2 + i)) → ((i : ℕ) → i < 64 → has d i ≡ is_held words (64 * 3 + i)) → (k i : ℕ) → k < 4 → i < 64 → has (slice_index (a ∷ b ∷ c ∷ d ∷ []) k) i ≡ is_held words (64 * k + i)
four-held words a b c d ha hb hc hd zero i lt h = ha i h
four-held words a b c d ha hb hc hd (suc zero) i lt h = hb i h
four-held words a b c d ha hb hc hd (suc (suc zero)) i lt h = hc i h
four-held words a b c d ha hb hc hd (suc (suc (suc zero))) i lt h = hd i h
four-held words a b c d ha hb hc hd (suc (suc (suc (suc k)))) i lt h = absurd (omega arith)

place-one : (i at : ℕ) → i ≡ at → (i % 64 == at % 64) ≡ (i == at)
place-one i at e = grind (arith, nat_tests)

place-none : (i at : ℕ) → i ≢ at → i % 64 ≢ at % 64 → (i % 64 == at % 64) ≡ (i == at)
place-none i at e f = grind (arith, nat_tests)

same-place : (i at : ℕ) → i / 64 ≡ at / 64 → (i % 64 == at % 64) ≡ (i == at)
same-place i at e = elim (cases_eq i at) [ inl s ↦ place-one i at s | inr ne ↦ let m : i % 64 ≢ at % 64 = λ f. ne (omega arith) in place-none i at ne m ]

other-place : (i at : ℕ) → i / 64 ≢ at / 64 → false ≡ (i == at)
other-place i at ne = let m : i ≢ at = λ e. ne (ap (λ n. n / 64) e) in grind (arith, nat_tests)

-- one flag of the row is turned over
flag-flipped : (words : List ℕ) (word at : ℕ) → at / 64 < length words → ((j : ℕ) → has word j ≡ not_same (has (slice_index words (at / 64)) j) (j == at % 64)) → (i : ℕ) → flag (slice_set words (at / 64) word) i ≡ not_same (flag words i) (i == at)
flag-flipped words word at lt h i = elim (cases_eq (i / 64) (at / 64)) [
  | inl e ↦
      flag-is (slice_set words (at / 64) word) i
      ∙ ap (λ n. has (slice_index (slice_set words (at / 64) word) n) (i % 64)) e
      ∙ ap (λ n. has n (i % 64)) (get_or-set_same words (at / 64) word 0 lt)
      ∙ h (i % 64)
      ∙ ap (not_same (has (slice_index words (at / 64)) (i % 64))) (same-place i at e)
      ∙ ap (λ n. not_same (has (slice_index words n) (i % 64)) (i == at)) (sym e)
      ∙ ap (λ b. not_same b (i == at)) (sym (flag-is words i))
  | inr ne ↦
      flag-is (slice_set words (at / 64) word) i
      ∙ ap (λ n. has n (i % 64)) (get_or-set_other words (at / 64) (i / 64) word 0 ne)
      ∙ sym (flag-is words i)
      ∙ sym (same-false (flag words i))
      ∙ ap (not_same (flag words i)) (other-place i at ne)
]

-- which turns over the columns up to it
pub toggled : (words : List ℕ) (word at : ℕ) → at < 256 → length words ≡ 4 → ((j : ℕ) → has word j ≡ not_same (has (slice_index words (at / 64)) j) (j == at % 64)) → (i : ℕ) → is_held (slice_set words (at / 64) word) i ≡ not_same (is_held words i) (nat_lt i (at + 1))
toggled words word at most four h i =
    let e : suc at ≡ at + 1 = omega arith in
    let inside : at / 64 < length words = omega arith in
    held-is (slice_set words (at / 64) word) i
    ∙ odd-same (flag (slice_set words (at / 64) word)) (λ j. not_same (flag words j) (j == at)) i (256 - i) (λ j le lt. flag-flipped words word at inside h j)
    ∙ odd-both (flag words) (λ j. j == at) i (256 - i)
    ∙ ap (not_same (is_odd_among (flag words) i (256 - i))) (odd-one at i (256 - i) (omega arith))
    ∙ ap (λ b. not_same b (nat_lt i (suc at))) (sym (held-is words i))
    ∙ ap (λ n. not_same (is_held words i) (nat_lt i n)) e
