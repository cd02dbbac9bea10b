-- The cuts behind flags, and the spans between them.
use Rattle.std.proofs.Common.{◌≡◌, ℕ, zero, suc, ◌+◌, ◌-◌, ◌*◌, ◌<◌, ◌≤◌, List, [], ◌∷◌, ◌++◌, length, take, drop, slice_index, ℤ, pos, ◌+ℤ◌, ◌-ℤ◌, ◌≤ℤ◌, ◌<ℤ◌, Bool, true, false, not, cond, min, ◌==◌, refl, sym, ap, ◌∙◌, arith, inl, inr, append_assoc, subst}
use Rattle.std.specs.Prelude.{int_lt, unsigned_abs}
use Rattle.std.proofs.lemmas.Bool.{cases_Bool, cases_lt}
use Rattle.std.proofs.lemmas.Bool.Decides.{nat_tests}
use Rattle.std.proofs.lemmas.Int.{ints}
use Rattle.std.proofs.lemmas.List.{take-append-drop, length-take}
use Rattle.std.proofs.lemmas.List.Elements.{All-cons, All-nil}
use Rattle.canvas_plane.specs.Motion.{not_same}
use Rattle.canvas_shape.specs.declared.Span.{Span}
use Rattle.canvas_shape.specs.Spans.{IsSpans}
use Rattle.canvas_shape.specs.Cuts.{is_odd, is_odd_above, piece, spans_of, AreRisingFrom, AreWithin, AreCuts}
use Rattle.canvas_shape.specs.Flags.{flag, is_odd_among, is_held, held_from, cuts_behind}
use Rattle.canvas_shape.specs.Words.{has}
use Rattle.canvas_shape.proofs.Bits.{has-zero}
use Rattle.canvas_shape.proofs.Edge.{lt-lt_test, le-lt_test}
use Rattle.canvas_shape.proofs.FlagLaws.{flag-at, held-is}
use Rattle.canvas_shape.proofs.Odd.{odd-none, odd-suc, false-same, not_same-assoc}
use Rattle.canvas_shape.proofs.Pairs.{spans-of_cuts, kept-step}

pub cuts-none : (width : ℕ) (test : ℕ → Bool) (from : ℕ) → cuts_behind width test from 0 ≡ []
unfolding cuts_behind
cuts-none width test from = refl

cuts-suc : (width : ℕ) (test : ℕ → Bool) (from n : ℕ) → cuts_behind width test from (suc n) ≡ cond (test from) (min (suc from) width ∷ cuts_behind width test (suc from) n) (cuts_behind width test (suc from) n)
unfolding cuts_behind
cuts-suc width test from n = refl

cuts-yes : (width : ℕ) (test : ℕ → Bool) (from n : ℕ) → test from ≡ true → cuts_behind width test from (suc n) ≡ min (suc from) width ∷ cuts_behind width test (suc from) n
cuts-yes width test from n e = cuts-suc width test from n ∙ ap (λ b. cond b (min (suc from) width ∷ cuts_behind width test (suc from) n) (cuts_behind width test (suc from) n)) e

cuts-no : (width : ℕ) (test : ℕ → Bool) (from n : ℕ) → test from ≡ false → cuts_behind width test from (suc n) ≡ cuts_behind width test (suc from) n
cuts-no width test from n e = cuts-suc width test from n ∙ ap (λ b. cond b (min (suc from) width ∷ cuts_behind width test (suc from) n) (cuts_behind width test (suc from) n)) e

-- the same tests give the same cuts
cuts-same : (width : ℕ) (s t : ℕ → Bool) (from n : ℕ) → ((i : ℕ) → from ≤ i → i < from + n → s i ≡ t i) → cuts_behind width s from n ≡ cuts_behind width t from n
cuts-same width s t from zero h = cuts-none width s from ∙ sym (cuts-none width t from)
cuts-same width s t from (suc n) h =
    let rest : cuts_behind width s (suc from) n ≡ cuts_behind width t (suc from) n = cuts-same width s t (suc from) n (λ i le lt. h i (omega arith) (omega arith)) in
    cuts-suc width s from n
    ∙ ap (λ b. cond b (min (suc from) width ∷ cuts_behind width s (suc from) n) (cuts_behind width s (suc from) n)) (h from (omega arith) (omega arith))
    ∙ ap (λ cs. cond (t from) (min (suc from) width ∷ cs) cs) rest
    ∙ sym (cuts-suc width t from n)

-- no cut behind places that fail
cuts-nowhere : (width : ℕ) (test : ℕ → Bool) (from n : ℕ) → ((i : ℕ) → from ≤ i → i < from + n → test i ≡ false) → cuts_behind width test from n ≡ []
cuts-nowhere width test from zero h = cuts-none width test from
cuts-nowhere width test from (suc n) h = cuts-no width test from n (h from (omega arith) (omega arith)) ∙ cuts-nowhere width test (suc from) n (λ i le lt. h i (omega arith) (omega arith))

-- some places and then others
cuts-parts : (width : ℕ) (test : ℕ → Bool) (from m n : ℕ) → cuts_behind width test from (m + n) ≡ cuts_behind width test from m ++ cuts_behind width test (from + m) n
cuts-parts width test from zero n =
    let e : from ≡ from + 0 = omega arith in
    let z : 0 + n ≡ n = omega arith in
    ap (cuts_behind width test from) z ∙ ap (λ k. cuts_behind width test k n) e ∙ sym (ap (λ cs. cs ++ cuts_behind width test (from + 0) n) (cuts-none width test from))
cuts-parts width test from (suc m) n =
    let e : suc from + m ≡ from + suc m = omega arith in
    let z : suc m + n ≡ suc (m + n) = omega arith in
    let rest : cuts_behind width test (suc from) (m + n) ≡ cuts_behind width test (suc from) m ++ cuts_behind width test (from + suc m) n = cuts-parts width test (suc from) m n ∙ ap (λ k. cuts_behind width test (suc from) m ++ cuts_behind width test k n) e in
    ap (cuts_behind width test from) z
    ∙ elim (cases_Bool (test from)) [
      | inl t ↦
          cuts-yes width test from (m + n) t ∙ ap (λ cs. min (suc from) width ∷ cs) rest
          ∙ sym (ap (λ cs. cs ++ cuts_behind width test (from + suc m) n) (cuts-yes width test from m t))
      | inr t ↦ cuts-no width test from (m + n) t ∙ rest ∙ sym (ap (λ cs. cs ++ cuts_behind width test (from + suc m) n) (cuts-no width test from m t))
    ]

-- the cut behind the one place that passes before a place, and those behind it
cuts-next : (width : ℕ) (test : ℕ → Bool) (from at n : ℕ) → ((i : ℕ) → from ≤ i → i < from + at → test i ≡ false) → test (from + at) ≡ true → cuts_behind width test from (at + suc n) ≡ min (suc (from + at)) width ∷ cuts_behind width test (suc (from + at)) n
cuts-next width test from at n before there =
    cuts-parts width test from at (suc n)
    ∙ ap (λ cs. cs ++ cuts_behind width test (from + at) (suc n)) (cuts-nowhere width test from at before)
    ∙ cuts-yes width test (from + at) n there

-- the cuts of a row lie in it
cuts-within : (left right : ℤ) (width : ℕ) (test : ℕ → Bool) (from n : ℕ) → right ≡ left +ℤ pos width → AreWithin left right (cuts_behind width test from n)
cuts-within left right width test from zero e = subst (AreWithin left right) (sym (cuts-none width test from)) (All-nil (λ c. (left +ℤ pos c) ≤ℤ right))
cuts-within left right width test from (suc n) e =
    let rest = cuts-within left right width test (suc from) n e in
    elim (cases_Bool (test from)) [
      | inl t ↦ subst (AreWithin left right) (sym (cuts-yes width test from n t)) (All-cons (λ c. (left +ℤ pos c) ≤ℤ right) (min (suc from) width) (cuts_behind width test (suc from) n) (omega (arith, ints)) rest)
      | inr t ↦ subst (AreWithin left right) (sym (cuts-no width test from n t)) rest
    ]

-- and rise
cuts-rising : (width : ℕ) (test : ℕ → Bool) (start from n : ℕ) → start ≤ from → start ≤ width → AreRisingFrom start (cuts_behind width test from n)
cuts-rising width test start from zero le lw = subst (AreRisingFrom start) (sym (cuts-none width test from)) tt
cuts-rising width test start from (suc n) le lw = elim (cases_Bool (test from)) [
  | inl t ↦ subst (AreRisingFrom start) (sym (cuts-yes width test from n t)) (omega arith, cuts-rising width test (min (suc from) width) (suc from) n (omega arith) (omega arith))
  | inr t ↦ subst (AreRisingFrom start) (sym (cuts-no width test from n t)) (cuts-rising width test start (suc from) n (omega arith) lw)
]

true-same : (a : Bool) → not a ≡ not_same true a
true-same true = refl
true-same false = refl

-- their number
cuts-odd : (width : ℕ) (test : ℕ → Bool) (from n : ℕ) → is_odd (length (cuts_behind width test from n)) ≡ is_odd_among test from n
cuts-odd width test from zero = ap (λ cs. is_odd (length cs)) (cuts-none width test from) ∙ sym (odd-none test from)
cuts-odd width test from (suc n) = elim (cases_Bool (test from)) [
  | inl t ↦
      ap (λ cs. is_odd (length cs)) (cuts-yes width test from n t) ∙ ap not (cuts-odd width test (suc from) n)
      ∙ true-same (is_odd_among test (suc from) n) ∙ ap (λ b. not_same b (is_odd_among test (suc from) n)) (sym t) ∙ sym (odd-suc test from n)
  | inr t ↦
      ap (λ cs. is_odd (length cs)) (cuts-no width test from n t) ∙ cuts-odd width test (suc from) n
      ∙ sym (false-same (is_odd_among test (suc from) n)) ∙ ap (λ b. not_same b (is_odd_among test (suc from) n)) (sym t) ∙ sym (odd-suc test from n)
]

before-cut : (left : ℤ) (i from width : ℕ) → i ≤ from → i < width → (left +ℤ pos i) <ℤ (left +ℤ pos (min (suc from) width))
before-cut left i from width h k = omega (arith, ints)

behind-cut : (left : ℤ) (i from width : ℕ) → from < i → (left +ℤ pos (min (suc from) width)) ≤ℤ (left +ℤ pos i)
behind-cut left i from width h = omega (arith, ints)

above-cons : (left : ℤ) (c : ℕ) (cs : List ℕ) (x : ℤ) (b : Bool) → int_lt x (left +ℤ pos c) ≡ b → is_odd_above left (c ∷ cs) x ≡ not_same b (is_odd_above left cs x)
above-cons left c cs x b e = ap (λ u. not_same u (is_odd_above left cs x)) e

above-append : (left : ℤ) (cs ds : List ℕ) (x : ℤ) → is_odd_above left (cs ++ ds) x ≡ not_same (is_odd_above left cs x) (is_odd_above left ds x)
above-append left [] ds x = sym (false-same (is_odd_above left ds x))
above-append left (c ∷ cs) ds x = ap (not_same (int_lt x (left +ℤ pos c))) (above-append left cs ds x) ∙ not_same-assoc (int_lt x (left +ℤ pos c)) (is_odd_above left cs x) (is_odd_above left ds x)

-- a column counts the cuts behind it
cuts-right : (left : ℤ) (width : ℕ) (test : ℕ → Bool) (i from n : ℕ) → i ≤ from → i < width → is_odd_above left (cuts_behind width test from n) (left +ℤ pos i) ≡ is_odd_among test from n
cuts-right left width test i from zero le lt = ap (λ cs. is_odd_above left cs (left +ℤ pos i)) (cuts-none width test from) ∙ sym (odd-none test from)
cuts-right left width test i from (suc n) le lt =
    let rest = cuts-right left width test i (suc from) n (omega arith) lt in
    elim (cases_Bool (test from)) [
      | inl t ↦
          ap (λ cs. is_odd_above left cs (left +ℤ pos i)) (cuts-yes width test from n t)
          ∙ above-cons left (min (suc from) width) (cuts_behind width test (suc from) n) (left +ℤ pos i) true (lt-lt_test (left +ℤ pos i) (left +ℤ pos (min (suc from) width)) (before-cut left i from width le lt))
          ∙ ap (not_same true) rest ∙ ap (λ b. not_same b (is_odd_among test (suc from) n)) (sym t) ∙ sym (odd-suc test from n)
      | inr t ↦
          ap (λ cs. is_odd_above left cs (left +ℤ pos i)) (cuts-no width test from n t) ∙ rest
          ∙ sym (false-same (is_odd_among test (suc from) n)) ∙ ap (λ b. not_same b (is_odd_among test (suc from) n)) (sym t) ∙ sym (odd-suc test from n)
    ]

-- and none before it
cuts-left : (left : ℤ) (width : ℕ) (test : ℕ → Bool) (i from n : ℕ) → from + n ≤ i → is_odd_above left (cuts_behind width test from n) (left +ℤ pos i) ≡ false
cuts-left left width test i from zero le = ap (λ cs. is_odd_above left cs (left +ℤ pos i)) (cuts-none width test from)
cuts-left left width test i from (suc n) le =
    let rest = cuts-left left width test i (suc from) n (omega arith) in
    elim (cases_Bool (test from)) [
      | inl t ↦
          ap (λ cs. is_odd_above left cs (left +ℤ pos i)) (cuts-yes width test from n t)
          ∙ above-cons left (min (suc from) width) (cuts_behind width test (suc from) n) (left +ℤ pos i) false (le-lt_test (left +ℤ pos i) (left +ℤ pos (min (suc from) width)) (behind-cut left i from width (omega arith)))
          ∙ false-same (is_odd_above left (cuts_behind width test (suc from) n) (left +ℤ pos i)) ∙ rest
      | inr t ↦ ap (λ cs. is_odd_above left cs (left +ℤ pos i)) (cuts-no width test from n t) ∙ rest
    ]

cuts-at : (left : ℤ) (width : ℕ) (words : List ℕ) (i : ℕ) → i < width → width ≤ 256 → is_odd_above left (cuts_behind width (flag words) 0 256) (left +ℤ pos i) ≡ is_held words i
cuts-at left width words i lt wide =
    let e : 256 ≡ i + (256 - i) = omega arith in
    let z : 0 + i ≡ i = omega arith in
    ap (λ n. is_odd_above left (cuts_behind width (flag words) 0 n) (left +ℤ pos i)) e
    ∙ ap (λ cs. is_odd_above left cs (left +ℤ pos i)) (cuts-parts width (flag words) 0 i (256 - i))
    ∙ above-append left (cuts_behind width (flag words) 0 i) (cuts_behind width (flag words) (0 + i) (256 - i)) (left +ℤ pos i)
    ∙ ap (λ b. not_same b (is_odd_above left (cuts_behind width (flag words) (0 + i) (256 - i)) (left +ℤ pos i))) (cuts-left left width (flag words) i 0 i (omega arith))
    ∙ false-same (is_odd_above left (cuts_behind width (flag words) (0 + i) (256 - i)) (left +ℤ pos i))
    ∙ ap (λ k. is_odd_above left (cuts_behind width (flag words) k (256 - i)) (left +ℤ pos i)) z
    ∙ cuts-right left width (flag words) i i (256 - i) (omega arith) lt
    ∙ sym (held-is words i)

column : (left x : ℤ) → left ≤ℤ x → x ≡ left +ℤ pos (unsigned_abs (x -ℤ left))
column left x h = omega (arith, ints)

column-lt : (left x : ℤ) (width : ℕ) → left ≤ℤ x → x <ℤ (left +ℤ pos width) → unsigned_abs (x -ℤ left) < width
column-lt left x width h k = omega (arith, ints)

flag-cuts : (left : ℤ) (width : ℕ) (words : List ℕ) → width ≤ 256 → AreCuts left (left +ℤ pos width) (cuts_behind width (flag words) 0 256) (λ x. is_held words (unsigned_abs (x -ℤ left)))
flag-cuts left width words wide = record {
  exact = λ x a b. ap (λ z. is_odd_above left (cuts_behind width (flag words) 0 256) z) (column left x a) ∙ cuts-at left width words (unsigned_abs (x -ℤ left)) (column-lt left x width a b) wide;
  inside = cuts-within left (left +ℤ pos width) width (flag words) 0 256 refl;
}

-- the spans between the cuts of a row's flags are its held columns
pub flag-spans : (left : ℤ) (width : ℕ) (words : List ℕ) → width ≤ 256 → IsSpans (spans_of left (is_held words 0) 0 (cuts_behind width (flag words) 0 256)) (held_from left width words)
flag-spans left width words wide =
    let e : is_odd (length (cuts_behind width (flag words) 0 256)) ≡ is_held words 0 = cuts-odd width (flag words) 0 256 ∙ sym (held-is words 0) in
    subst (λ b. IsSpans (spans_of left b 0 (cuts_behind width (flag words) 0 256)) (held_from left width words)) e
    (spans-of_cuts left (left +ℤ pos width) (cuts_behind width (flag words) 0 256) (λ x. is_held words (unsigned_abs (x -ℤ left))) (flag-cuts left width words wide) (cuts-rising width (flag words) 0 0 256 (omega arith) (omega arith)))

is-not-there : (b : Bool) (i at : ℕ) → b ≡ false → i < at → not_same b (i == at) ≡ false
is-not-there false i at e lt = grind (arith, nat_tests)
is-not-there true i at e lt = cc

is-gone : (b : Bool) (i at : ℕ) → b ≡ true → i ≡ at → not_same b (i == at) ≡ false
is-gone true i at e s = grind (arith, nat_tests)
is-gone false i at e s = cc

is-kept : (b : Bool) (i at : ℕ) → at < i → b ≡ not_same b (i == at)
is-kept true i at lt = grind (arith, nat_tests)
is-kept false i at lt = grind (arith, nat_tests)

-- the next word has no flag up to the lowest one of a word
gone-up-to : (word next at i : ℕ) → i ≤ at → has word at ≡ true → ((j : ℕ) → j < at → has word j ≡ false) → ((j : ℕ) → has next j ≡ not_same (has word j) (j == at)) → has next i ≡ false
gone-up-to word next at i le there before step = elim (cases_lt i at) [
  | inl lt ↦ step i ∙ is-not-there (has word i) i at (before i lt) lt
  | inr ge ↦ let e : i ≡ at = omega arith in step i ∙ is-gone (has word i) i at (ap (has word) e ∙ there) e
]

-- the lowest flag of a word, and the others
cuts-lowest : (width word next base at : ℕ) → at < 64 → has word at ≡ true → ((i : ℕ) → i < at → has word i ≡ false) → ((i : ℕ) → has next i ≡ not_same (has word i) (i == at)) → cuts_behind width (λ j. has word (j - base)) base 64 ≡ min (suc (base + at)) width ∷ cuts_behind width (λ j. has next (j - base)) base 64
cuts-lowest width word next base at lt there before step =
    let s : ℕ → Bool = λ j. has word (j - base) in
    let n : ℕ → Bool = λ j. has next (j - base) in
    let m = 63 - at in
    let first : 64 ≡ at + suc m = omega arith in
    let second : 64 ≡ suc at + m = omega arith in
    let place : (base + at) - base ≡ at = omega arith in
    let behind : base + suc at ≡ suc (base + at) = omega arith in
    let gone : cuts_behind width n base (suc at) ≡ [] = cuts-nowhere width n base (suc at) (λ i le below. gone-up-to word next at (i - base) (omega arith) there before step) in
    let same : cuts_behind width s (suc (base + at)) m ≡ cuts_behind width n (suc (base + at)) m = cuts-same width s n (suc (base + at)) m (λ i le below. is-kept (has word (i - base)) (i - base) at (omega arith) ∙ sym (step (i - base))) in
    let rest : cuts_behind width n base 64 ≡ cuts_behind width n (suc (base + at)) m = ap (cuts_behind width n base) second ∙ cuts-parts width n base (suc at) m ∙ ap (λ cs. cs ++ cuts_behind width n (base + suc at) m) gone ∙ ap (λ k. cuts_behind width n k m) behind in
    ap (cuts_behind width s base) first
    ∙ cuts-next width s base at m (λ i le below. before (i - base) (omega arith)) (ap (has word) place ∙ there)
    ∙ ap (λ cs. min (suc (base + at)) width ∷ cs) (same ∙ sym rest)

pub fewer-cuts : (width word next base at : ℕ) → at < 64 → has word at ≡ true → ((i : ℕ) → i < at → has word i ≡ false) → ((i : ℕ) → has next i ≡ not_same (has word i) (i == at)) → length (cuts_behind width (λ j. has next (j - base)) base 64) < length (cuts_behind width (λ j. has word (j - base)) base 64)
fewer-cuts width word next base at lt there before step = omega (arith, ap length (cuts-lowest width word next base at lt there before step))

-- the spans up to one more cut
pub word-step : (left : ℤ) (inside : Bool) (width word next base at place cut : ℕ) (out new : List Span) (target : List ℕ → List Span) → at < 64 → has word at ≡ true → ((i : ℕ) → i < at → has word i ≡ false) → ((i : ℕ) → has next i ≡ not_same (has word i) (i == at)) → cut ≡ min (suc (base + at)) width → new ≡ out ++ piece left inside place cut → ((rest : List ℕ) → out ++ spans_of left inside place (cuts_behind width (λ j. has word (j - base)) base 64 ++ rest) ≡ target rest) → (rest : List ℕ) → new ++ spans_of left (not inside) cut (cuts_behind width (λ j. has next (j - base)) base 64 ++ rest) ≡ target rest
word-step left inside width word next base at place cut out new target lt there before step ec en h rest =
    let later = cuts_behind width (λ j. has next (j - base)) base 64 in
    let e : cuts_behind width (λ j. has word (j - base)) base 64 ≡ cut ∷ later = cuts-lowest width word next base at lt there before step ∙ ap (λ c. c ∷ later) (sym ec) in
    ap (λ l. l ++ spans_of left (not inside) cut (later ++ rest)) en
    ∙ append_assoc out (piece left inside place cut) (spans_of left (not inside) cut (later ++ rest))
    ∙ ap (λ cs. out ++ spans_of left inside place (cs ++ rest)) (sym e)
    ∙ h rest

-- a word without a flag cuts nothing
pub word-done : (left : ℤ) (inside : Bool) (width word base place : ℕ) (out : List Span) (target : List ℕ → List Span) → word ≡ 0 → ((rest : List ℕ) → out ++ spans_of left inside place (cuts_behind width (λ j. has word (j - base)) base 64 ++ rest) ≡ target rest) → (rest : List ℕ) → out ++ spans_of left inside place rest ≡ target rest
word-done left inside width word base place out target e h rest =
    let none : cuts_behind width (λ j. has word (j - base)) base 64 ≡ [] = cuts-nowhere width (λ j. has word (j - base)) base 64 (λ i le lt. ap (λ n. has n (i - base)) e ∙ has-zero (i - base)) in
    ap (λ cs. out ++ spans_of left inside place (cs ++ rest)) (sym none) ∙ h rest

-- the cuts of the next word, and of those behind it
cuts-word : (width : ℕ) (words : List ℕ) (k : ℕ) → k < 4 → cuts_behind width (flag words) (64 * k) (256 - 64 * k) ≡ cuts_behind width (λ j. has (slice_index words k) (j - 64 * k)) (64 * k) 64 ++ cuts_behind width (flag words) (64 * (k + 1)) (256 - 64 * (k + 1))
cuts-word width words k lt =
    let e : 256 - 64 * k ≡ 64 + (256 - 64 * (k + 1)) = omega arith in
    let behind : 64 * k + 64 ≡ 64 * (k + 1) = omega arith in
    let word : cuts_behind width (flag words) (64 * k) 64 ≡ cuts_behind width (λ j. has (slice_index words k) (j - 64 * k)) (64 * k) 64 =
    cuts-same width (flag words) (λ j. has (slice_index words k) (j - 64 * k)) (64 * k) 64 (λ j le below. let p : j ≡ 64 * k + (j - 64 * k) = omega arith in ap (flag words) p ∙ flag-at words k (j - 64 * k) (omega arith)) in
    ap (cuts_behind width (flag words) (64 * k)) e
    ∙ cuts-parts width (flag words) (64 * k) 64 (256 - 64 * (k + 1))
    ∙ ap (λ cs. cs ++ cuts_behind width (flag words) (64 * k + 64) (256 - 64 * (k + 1))) word
    ∙ ap (λ n. cuts_behind width (λ j. has (slice_index words k) (j - 64 * k)) (64 * k) 64 ++ cuts_behind width (flag words) n (256 - 64 * (k + 1))) behind

-- the spans up to one more word
pub row-step : (left : ℤ) (inside next : Bool) (width : ℕ) (words : List ℕ) (word base k place after : ℕ) (out new target : List Span) → k < 4 → word ≡ slice_index words k → base ≡ 64 * k → ((rest : List ℕ) → new ++ spans_of left next after rest ≡ out ++ spans_of left inside place (cuts_behind width (λ j. has word (j - base)) base 64 ++ rest)) → out ++ spans_of left inside place (cuts_behind width (flag words) (64 * k) (256 - 64 * k)) ≡ target → new ++ spans_of left next after (cuts_behind width (flag words) (64 * (k + 1)) (256 - 64 * (k + 1))) ≡ target
row-step left inside next width words word base k place after out new target lt ew eb step h =
    let rest = cuts_behind width (flag words) (64 * (k + 1)) (256 - 64 * (k + 1)) in
    step rest
    ∙ ap (λ n. out ++ spans_of left inside place (cuts_behind width (λ j. has n (j - base)) base 64 ++ rest)) ew
    ∙ ap (λ n. out ++ spans_of left inside place (cuts_behind width (λ j. has (slice_index words k) (j - n)) n 64 ++ rest)) eb
    ∙ ap (λ cs. out ++ spans_of left inside place cs) (sym (cuts-word width words k lt))
    ∙ h

append-nil : (xs : List Span) → xs ++ [] ≡ xs
append-nil [] = refl
append-nil (x ∷ xs) = ap (λ l. x ∷ l) (append-nil xs)

-- after the last word
pub row-done : (left : ℤ) (inside : Bool) (width : ℕ) (words : List ℕ) (k place : ℕ) (out target : List Span) → 4 ≤ k → out ++ spans_of left inside place (cuts_behind width (flag words) (64 * k) (256 - 64 * k)) ≡ target → out ≡ target
row-done left inside width words k place out target le h =
    let e : 256 - 64 * k ≡ 0 = omega arith in
    sym (append-nil out)
    ∙ ap (λ cs. out ++ spans_of left inside place cs) (sym (ap (cuts_behind width (flag words) (64 * k)) e ∙ cuts-none width (flag words) (64 * k)))
    ∙ h

-- what is kept twice is kept
pub kept-on : (old mid new : List Span) → take (length old) mid ≡ old → take (length mid) new ≡ mid → take (length old) new ≡ old
kept-on old mid new h k =
    let le : length old ≤ length mid = omega (arith, length-take (length old) mid, ap length h) in
    kept-step old mid new (drop (length mid) new) (sym (take-append-drop (length mid) new) ∙ ap (λ l. l ++ drop (length mid) new) k) le h
