-- The four words of a row, made one by one.
use Rattle.std.proofs.Common.{◌≡◌, ℕ, ◌+◌, ◌*◌, ◌/◌, ◌%◌, ◌<◌, ◌≤◌, ◌≢◌, List, [], ◌∷◌, Bool, false, refl, sym, ap, ◌∙◌, arith, length, get_or, set, get_or-set_same, get_or-set_other, length-set, ⊎_elim}
use Rattle.std.proofs.lemmas.Bool.{cases_eq, cases_lt}
use Rattle.std.proofs.lemmas.Bool.Decides.{nat_tests}
use Rattle.canvas_shape.specs.Words.{has}
use Rattle.canvas_paint.specs.Blocks.{row_has}
use Rattle.canvas_paint.specs.Words.{is_within, IsWord}
use Rattle.canvas_paint.proofs.Bits.{has-zero}
use Rattle.canvas_paint.proofs.Cutting.{row-of-four}

-- the row has the columns of a test in the words before the n-th, and none in the others
pub record IsBegun (row : List ℕ) (test : ℕ → Bool) (n : ℕ) : Type 0 where
  pub four : length row ≡ 4
  pub done : (k : ℕ) → k < 64 * n → k < 256 → row_has row k ≡ test k
  pub rest : (k : ℕ) → 64 * n ≤ k → k < 256 → row_has row k ≡ false

none-before : (from to k : ℕ) → k < from → is_within from k to ≡ false
none-before from to k h = grind (arith, nat_tests)

none-behind : (from to k : ℕ) → to ≤ k → is_within from k to ≡ false
none-behind from to k h = grind (arith, nat_tests)

pub empty-row : (k : ℕ) → k < 256 → row_has (0 ∷ 0 ∷ 0 ∷ 0 ∷ []) k ≡ false
empty-row k lt = row-of-four (λ k. false) 0 0 0 0 k lt (λ i h. has-zero i) (λ i h. has-zero i) (λ i h. has-zero i) (λ i h. has-zero i)

pub start-row : (from to : ℕ) → IsBegun (0 ∷ 0 ∷ 0 ∷ 0 ∷ []) (λ k. is_within from k to) (from / 64)
start-row from to = record {
  four = omega arith;
  done = λ k h lt. empty-row k lt ∙ sym (none-before from to k (omega arith));
  rest = λ k h lt. empty-row k lt;
}

-- one word more
pub more-words : (row : List ℕ) (test : ℕ → Bool) (n word : ℕ) → n < 4 → IsWord word (λ i. test (64 * n + i)) → IsBegun row test n → IsBegun (set row n word) test (n + 1)
more-words row test n word small is h = record {
  four = omega (arith, h.four, length-set {A = ℕ});
  done = λ k below lt.
      ⊎_elim
      (λ (e : k / 64 ≡ n).
      let at : get_or (set row n word) (k / 64) 0 ≡ word = ap (λ m. get_or (set row n word) m 0) e ∙ get_or-set_same row n word 0 (omega (arith, h.four)) in
      let same : 64 * n + k % 64 ≡ k = omega arith in
      ap (λ w. has w (k % 64)) at ∙ is (k % 64) (omega arith) ∙ ap test same)
      (λ (ne : k / 64 ≢ n).
      ap (λ w. has w (k % 64)) (get_or-set_other row n (k / 64) word 0 ne) ∙ h.done k (omega arith) lt)
      (cases_eq (k / 64) n);
  rest = λ k above lt.
      let ne : k / 64 ≢ n = omega arith in
      ap (λ w. has w (k % 64)) (get_or-set_other row n (k / 64) word 0 ne) ∙ h.rest k (omega arith) lt;
}

-- with the word of the last column made, the row has all
pub all-words : (row : List ℕ) (from to n : ℕ) → to ≤ 64 * n → IsBegun row (λ k. is_within from k to) n → (k : ℕ) → k < 256 → row_has row k ≡ is_within from k to
all-words row from to n all h k lt =
    ⊎_elim
    (λ (below : k < 64 * n). h.done k below lt)
    (λ (above : 64 * n ≤ k). h.rest k above lt ∙ sym (none-behind from to k (omega arith)))
    (cases_lt k (64 * n))

word-of : (words : List ℕ) (base n i : ℕ) → base ≡ 64 * n → i < 64 → row_has words (base + i) ≡ has (get_or words n 0) i
word-of words base n i e lt =
    let word : (base + i) / 64 ≡ n = omega arith in
    let bit : (base + i) % 64 ≡ i = omega arith in
    ap (λ m. has (get_or words m 0) ((base + i) % 64)) word ∙ ap (has (get_or words n 0)) bit

-- four words, each made of those of two rows
pub rows-of : (f : Bool → Bool → Bool) (a b : List ℕ) (p q r s k : ℕ) → k < 256 → IsWord p (λ i. f (has (get_or a 0 0) i) (has (get_or b 0 0) i)) → IsWord q (λ i. f (has (get_or a 1 0) i) (has (get_or b 1 0) i)) → IsWord r (λ i. f (has (get_or a 2 0) i) (has (get_or b 2 0) i)) → IsWord s (λ i. f (has (get_or a 3 0) i) (has (get_or b 3 0) i)) → row_has (p ∷ q ∷ r ∷ s ∷ []) k ≡ f (row_has a k) (row_has b k)
rows-of f a b p q r s k lt hp hq hr hs =
    let at : (base n word : ℕ) → base ≡ 64 * n → IsWord word (λ i. f (has (get_or a n 0) i) (has (get_or b n 0) i)) → IsWord word (λ i. f (row_has a (base + i)) (row_has b (base + i))) = λ base n word e h i low. h i low ∙ sym (ap (λ t. f t (row_has b (base + i))) (word-of a base n i e low) ∙ ap (f (has (get_or a n 0) i)) (word-of b base n i e low)) in
    row-of-four (λ k. f (row_has a k) (row_has b k)) p q r s k lt (at 0 0 p refl hp) (at 64 1 q refl hq) (at 128 2 r refl hr) (at 192 3 s refl hs)
