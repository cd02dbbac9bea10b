-- What a span takes from free spans, pixel by pixel.
use Rattle.std.proofs.Common.{◌≡◌, ℕ, ◌+◌, ◌<◌, List, [], ◌∷◌, ◌++◌, ℤ, ◌<ℤ◌, ◌≤ℤ◌, Bool, true, false, not, ◌&&◌, ◌||◌, refl, sym, ap, ◌∙◌, arith, length, take, get_or, append_assoc, append-nil, inl, inr}
use Rattle.std.specs.Prelude.{int_lt}
use Rattle.std.specs.Int.{int_max, int_min}
use Rattle.std.proofs.lemmas.Bool.{cases_Bool}
use Rattle.std.proofs.lemmas.Int.{ints}
use Rattle.std.proofs.lemmas.List.{take_more}
use Rattle.canvas_shape.specs.declared.Span.{Span}
use Rattle.canvas_shape.specs.Spans.{AreRising, StartsFrom, covers, is_from_to}
use Rattle.canvas_paint.specs.FreeRows.{after_of, before_of, common_of, piece_of, rest_of, taken_of}

or-false : (b : Bool) → (b || false) ≡ b
or-false true = refl
or-false false = refl

or-assoc : (a b c : Bool) → ((a || b) || c) ≡ (a || (b || c))
or-assoc true b c = refl
or-assoc false b c = refl

covers-append : (a b : List Span) (x : ℤ) → covers (a ++ b) x ≡ (covers a x || covers b x)
covers-append [] b x = refl
covers-append (s ∷ a) b x = ap (λ t. is_from_to s.from x s.to || t) (covers-append a b x) ∙ sym (or-assoc (is_from_to s.from x s.to) (covers a x) (covers b x))

empty-range : (from to x : ℤ) → int_lt from to ≡ false → false ≡ is_from_to from x to
empty-range from to x h = grind (arith, ints)

pub covers-piece : (s : Span) (x : ℤ) → covers (piece_of s) x ≡ is_from_to s.from x s.to
covers-piece s x = elim (cases_Bool (int_lt s.from s.to)) [
  | inl t ↦ rw t (or-false (is_from_to s.from x s.to))
  | inr f ↦ rw f (empty-range s.from s.to x f)
]

common-test : (a b c d x : ℤ) → is_from_to (int_max a c) x (int_min b d) ≡ (is_from_to c x d && is_from_to a x b)
common-test a b c d x = grind (arith, ints)

outside-test : (a b c d x : ℤ) → c ≤ℤ d → (is_from_to a x (int_min b c) || is_from_to (int_max a d) x b) ≡ (is_from_to a x b && not (is_from_to c x d))
outside-test a b c d x h = grind (arith, ints)

and-or : (p q r : Bool) → ((p && q) || (p && r)) ≡ (p && (q || r))
and-or true q r = refl
and-or false q r = refl

or-and : (p q n : Bool) → ((p && n) || (q && n)) ≡ ((p || q) && n)
or-and true true true = refl
or-and true true false = refl
or-and true false true = refl
or-and true false false = refl
or-and false q n = refl

and-false : (p : Bool) → false ≡ (p && false)
and-false true = refl
and-false false = refl

pub covers-taken : (span : Span) (ss : List Span) (x : ℤ) → covers (taken_of span ss) x ≡ (is_from_to span.from x span.to && covers ss x)
covers-taken span [] x = and-false (is_from_to span.from x span.to)
covers-taken span (s ∷ ss) x =
    covers-append (piece_of (common_of span s)) (taken_of span ss) x
    ∙ ap (λ t. t || covers (taken_of span ss) x) (covers-piece (common_of span s) x ∙ common-test s.from s.to span.from span.to x)
    ∙ ap (λ t. (is_from_to span.from x span.to && is_from_to s.from x s.to) || t) (covers-taken span ss x)
    ∙ and-or (is_from_to span.from x span.to) (is_from_to s.from x s.to) (covers ss x)

pub covers-rest : (span : Span) (ss : List Span) (x : ℤ) → span.from ≤ℤ span.to → covers (rest_of span ss) x ≡ (covers ss x && not (is_from_to span.from x span.to))
covers-rest span [] x h = refl
covers-rest span (s ∷ ss) x h =
    covers-append (piece_of (before_of span s)) (piece_of (after_of span s) ++ rest_of span ss) x
    ∙ ap (λ t. covers (piece_of (before_of span s)) x || t) (covers-append (piece_of (after_of span s)) (rest_of span ss) x)
    ∙ sym (or-assoc (covers (piece_of (before_of span s)) x) (covers (piece_of (after_of span s)) x) (covers (rest_of span ss) x))
    ∙ ap (λ t. (t || covers (piece_of (after_of span s)) x) || covers (rest_of span ss) x) (covers-piece (before_of span s) x)
    ∙ ap (λ t. (is_from_to s.from x (int_min s.to span.from) || t) || covers (rest_of span ss) x) (covers-piece (after_of span s) x)
    ∙ ap (λ t. t || covers (rest_of span ss) x) (outside-test s.from s.to span.from span.to x h)
    ∙ ap (λ t. (is_from_to s.from x s.to && not (is_from_to span.from x span.to)) || t) (covers-rest span ss x h)
    ∙ or-and (is_from_to s.from x s.to) (covers ss x) (not (is_from_to span.from x span.to))

-- ---- rising spans

starts-lower : (low at : ℤ) (ss : List Span) → low ≤ℤ at → StartsFrom at ss → StartsFrom low ss
starts-lower low at [] le h = tt
starts-lower low at (s ∷ ss) le h = omega (arith, ints)

piece-starts : (low : ℤ) (s : Span) (ss : List Span) → low ≤ℤ s.from → StartsFrom low ss → StartsFrom low (piece_of s ++ ss)
piece-starts low s ss le h = elim (cases_Bool (int_lt s.from s.to)) [
  | inl t ↦ rw t le
  | inr f ↦ rw f h
]

lt-of : (from to : ℤ) → int_lt from to ≡ true → from <ℤ to
lt-of from to h = grind (arith, ints)

piece-rising : (s : Span) (ss : List Span) → StartsFrom s.to ss → AreRising ss → AreRising (piece_of s ++ ss)
piece-rising s ss h r = elim (cases_Bool (int_lt s.from s.to)) [
  | inl t ↦ rw t (lt-of s.from s.to t, h, r)
  | inr f ↦ rw f r
]

max-left : (a b : ℤ) → a ≤ℤ int_max a b
max-left a b = grind (arith, ints)

max-right : (a b : ℤ) → b ≤ℤ int_max a b
max-right a b = grind (arith, ints)

min-left : (a b : ℤ) → int_min a b ≤ℤ a
min-left a b = grind (arith, ints)

min-right : (a b : ℤ) → int_min a b ≤ℤ b
min-right a b = grind (arith, ints)

le-trans : (a b c : ℤ) → a ≤ℤ b → b ≤ℤ c → a ≤ℤ c
le-trans a b c h k = omega (arith, ints)

after-first : (low : ℤ) (s : Span) (ss : List Span) → low ≤ℤ s.from → AreRising (s ∷ ss) → StartsFrom low ss
after-first low s ss le r = starts-lower low s.to ss (let lt : s.from <ℤ s.to = r.0 in omega (arith, ints)) r.1

taken-starts : (span : Span) (low : ℤ) (ss : List Span) → StartsFrom low ss → AreRising ss → StartsFrom low (taken_of span ss)
taken-starts span low [] h r = tt
taken-starts span low (s ∷ ss) h r =
    piece-starts low (common_of span s) (taken_of span ss) (le-trans low s.from (int_max s.from span.from) h (max-left s.from span.from)) (taken-starts span low ss (after-first low s ss h r) r.2)

pub taken-rising : (span : Span) (ss : List Span) → AreRising ss → AreRising (taken_of span ss)
taken-rising span [] r = tt
taken-rising span (s ∷ ss) r =
    piece-rising (common_of span s) (taken_of span ss)
    (starts-lower (int_min s.to span.to) s.to (taken_of span ss) (min-left s.to span.to) (taken-starts span s.to ss r.1 r.2))
    (taken-rising span ss r.2)

rest-starts : (span : Span) (low : ℤ) (ss : List Span) → StartsFrom low ss → AreRising ss → StartsFrom low (rest_of span ss)
rest-starts span low [] h r = tt
rest-starts span low (s ∷ ss) h r =
    piece-starts low (before_of span s) (piece_of (after_of span s) ++ rest_of span ss) h
    (piece-starts low (after_of span s) (rest_of span ss) (le-trans low s.from (int_max s.from span.to) h (max-left s.from span.to)) (rest-starts span low ss (after-first low s ss h r) r.2))

pub rest-rising : (span : Span) (ss : List Span) → span.from ≤ℤ span.to → AreRising ss → AreRising (rest_of span ss)
rest-rising span [] h r = tt
rest-rising span (s ∷ ss) h r =
    let after : StartsFrom s.to (rest_of span ss) = rest-starts span s.to ss r.1 r.2 in
    piece-rising (before_of span s) (piece_of (after_of span s) ++ rest_of span ss)
    (piece-starts (int_min s.to span.from) (after_of span s) (rest_of span ss)
    (le-trans (int_min s.to span.from) span.from (int_max s.from span.to) (min-right s.to span.from) (le-trans span.from span.to (int_max s.from span.to) h (max-right s.from span.to)))
    (starts-lower (int_min s.to span.from) s.to (rest_of span ss) (min-left s.to span.from) after))
    (piece-rising (after_of span s) (rest_of span ss) after (rest-rising span ss h r.2))

-- ---- one free span more

taken-append : (span : Span) (a b : List Span) → taken_of span (a ++ b) ≡ taken_of span a ++ taken_of span b
taken-append span [] b = refl
taken-append span (s ∷ a) b =
    ap (λ l. piece_of (common_of span s) ++ l) (taken-append span a b)
    ∙ sym (append_assoc (piece_of (common_of span s)) (taken_of span a) (taken_of span b))

rest-append : (span : Span) (a b : List Span) → rest_of span (a ++ b) ≡ rest_of span a ++ rest_of span b
rest-append span [] b = refl
rest-append span (s ∷ a) b =
    ap (λ l. piece_of (before_of span s) ++ (piece_of (after_of span s) ++ l)) (rest-append span a b)
    ∙ ap (λ l. piece_of (before_of span s) ++ l) (sym (append_assoc (piece_of (after_of span s)) (rest_of span a) (rest_of span b)))
    ∙ sym (append_assoc (piece_of (before_of span s)) (piece_of (after_of span s) ++ rest_of span a) (rest_of span b))

pub taken-more : (span d : Span) (ss start old new : List Span) (i : ℕ) → i < length ss → old ≡ start ++ taken_of span (take i ss) → new ≡ old ++ piece_of (common_of span (get_or ss i d)) → new ≡ start ++ taken_of span (take (i + 1) ss)
taken-more span d ss start old new i lt o n =
    n ∙ ap (λ l. l ++ piece_of (common_of span (get_or ss i d))) o
    ∙ append_assoc start (taken_of span (take i ss)) (piece_of (common_of span (get_or ss i d)))
    ∙ ap (λ l. start ++ (taken_of span (take i ss) ++ l)) (sym (append-nil (piece_of (common_of span (get_or ss i d)))))
    ∙ ap (λ l. start ++ l) (sym (taken-append span (take i ss) (get_or ss i d ∷ [])))
    ∙ ap (λ l. start ++ taken_of span l) (sym (take_more ss i d lt))

pub rest-more : (span d : Span) (ss old mid new : List Span) (i : ℕ) → i < length ss → old ≡ rest_of span (take i ss) → mid ≡ old ++ piece_of (before_of span (get_or ss i d)) → new ≡ mid ++ piece_of (after_of span (get_or ss i d)) → new ≡ rest_of span (take (i + 1) ss)
rest-more span d ss old mid new i lt o m n =
    n ∙ ap (λ l. l ++ piece_of (after_of span (get_or ss i d))) (m ∙ ap (λ l. l ++ piece_of (before_of span (get_or ss i d))) o)
    ∙ append_assoc (rest_of span (take i ss)) (piece_of (before_of span (get_or ss i d))) (piece_of (after_of span (get_or ss i d)))
    ∙ ap (λ l. rest_of span (take i ss) ++ (piece_of (before_of span (get_or ss i d)) ++ l)) (sym (append-nil (piece_of (after_of span (get_or ss i d)))))
    ∙ sym (rest-append span (take i ss) (get_or ss i d ∷ []))
    ∙ ap (λ l. rest_of span l) (sym (take_more ss i d lt))

-- ---- nothing free

never : (from to : ℤ) → from <ℤ to → is_from_to from from to ≡ false → ⊥
never from to h e = let z : is_from_to from from to ≡ true = grind (arith, ints) in let f : true ≡ false = sym z ∙ e in cc

or-left : (p q : Bool) → (p || q) ≡ false → p ≡ false
or-left true q e = e
or-left false q e = refl

-- rising spans cover nothing only where there are none
pub none-free : (ss : List Span) → AreRising ss → ((x : ℤ) → covers ss x ≡ false) → ss ≡ []
none-free [] r h = refl
none-free (s ∷ ss) r h = absurd (never s.from s.to r.0 (or-left (is_from_to s.from s.from s.to) (covers ss s.from) (h s.from)))

pub nil-of : (ss : List Span) → length ss ≡ 0 → ss ≡ []
nil-of [] e = refl
nil-of (s ∷ ss) e = absurd (omega arith)
