-- The spans between rising cuts.
use Rattle.std.proofs.Common.{◌≡◌, ℕ, zero, suc, ◌+◌, ◌-◌, ◌%◌, ◌≤◌, ◌<◌, List, [], ◌∷◌, ◌++◌, length, get_or, ℤ, pos, ◌+ℤ◌, ◌≤ℤ◌, ◌<ℤ◌, Bool, true, false, ◌&&◌, ◌||◌, cond, refl, sym, ap, ◌∙◌, arith, inl, inr, not, subst, eqb, drop, take, drop-cons, add-one, append_assoc}
use Rattle.std.specs.Prelude.{int_le, int_lt, nat_lt}
use Rattle.std.specs.List.{sum_by}
use Rattle.std.specs.List.Sorted.{IsPermutation, IsNonDecreasing}
use Rattle.std.proofs.lemmas.List.Sorted.{sum_by-IsPermutation, All-permutation, IsNonDecreasingBy-from_sort}
use Rattle.std.proofs.lemmas.List.Sums.{sum_by-cons}
use Rattle.std.proofs.Math.ListN.{drop_of_length-le}
use Rattle.std.specs.List.Sorted.{IsSorted}
use Rattle.std.specs.Ordering.{nat_cmp}
use Rattle.std.proofs.lemmas.List.Elements.{All-head, All-tail, All-push}
use Rattle.std.proofs.lemmas.List.{append-nil, length-append, take-append-le}
use Rattle.std.proofs.lemmas.Int.{ints}
use Rattle.std.proofs.lemmas.Bool.{cases_Bool, cases_lt, lt-ltb, le-ltb, ltb-true, and_parts, eq-eqb, ne_eqb}
use Rattle.canvas_plane.specs.Motion.{not_same}
use Rattle.canvas_shape.specs.declared.Span.{Span}
use Rattle.canvas_shape.specs.Spans.{is_from_to, covers, AreRising, StartsFrom, IsSpans, within}
use Rattle.canvas_shape.specs.Cuts.{is_odd, is_odd_above, piece, spans_of, AreRisingFrom, AreWithin, AreCuts, AddsCut}
use Rattle.canvas_shape.specs.Edges.{is_odd_along, counts, is_in_polygon, last_of}
use Rattle.canvas_plane.specs.declared.Point.{Point}
use Rattle.canvas_shape.proofs.Edge.{lt-lt_test, le-lt_test, lt_test-true, lt_test-false, le_test-true, le-le_test}

true≢false : true ≡ false → ⊥
true≢false e = cc

false≢true : false ≡ true → ⊥
false≢true e = cc

false-same : (a : Bool) → not_same false a ≡ a
false-same true = refl
false-same false = refl

true-not-same : (a : Bool) → not_same true a ≡ not a
true-not-same true = refl
true-not-same false = refl

step-past : (o : Bool) → o ≡ not_same false o
step-past true = refl
step-past false = refl

or_false : (b : Bool) → (b || false) ≡ b
or_false true = refl
or_false false = refl

and-false : (b : Bool) → (b && false) ≡ false
and-false true = refl
and-false false = refl

or-assoc : (a b c : Bool) → (a || (b || c)) ≡ ((a || b) || c)
or-assoc true b c = refl
or-assoc false b c = refl

not-not : (b : Bool) → not (not b) ≡ b
not-not true = refl
not-not false = refl

further : (left x : ℤ) (a b : ℕ) → x <ℤ (left +ℤ pos a) → a ≤ b → x <ℤ (left +ℤ pos b)
further left x a b h k = omega (arith, ints)

places-le : (left : ℤ) (a b : ℕ) → a ≤ b → (left +ℤ pos a) ≤ℤ (left +ℤ pos b)
places-le left a b h = omega (arith, ints)

places-lt : (left : ℤ) (a b : ℕ) → a < b → (left +ℤ pos a) <ℤ (left +ℤ pos b)
places-lt left a b h = omega (arith, ints)

int-le-refl : (a : ℤ) → a ≤ℤ a
int-le-refl a = omega (arith, ints)

int-le-trans : (a b c : ℤ) → a ≤ℤ b → b ≤ℤ c → a ≤ℤ c
int-le-trans a b c h k = omega (arith, ints)

and-lt : (i : Bool) (a b : ℕ) → (i && nat_lt a b) ≡ true → a < b
and-lt i a b e = ltb-true a b (and_parts i (nat_lt a b) e).1

le-not_lt : (a x : ℤ) → int_le a x ≡ not (int_lt x a)
le-not_lt a x = grind (arith, ints)

from-start : (left x : ℤ) (start c : ℕ) → start ≤ c → (left +ℤ pos c) ≤ℤ x → int_le (left +ℤ pos start) x ≡ true
from-start left x start c h k = let e : (left +ℤ pos start) ≤ℤ x = omega (arith, ints) in le-le_test (left +ℤ pos start) x e

empty-between : (a b x : ℤ) → b ≤ℤ a → false ≡ (int_le a x && int_lt x b)
empty-between a b x h = grind (arith, ints)

no-room : (left x : ℤ) (a b : ℕ) → b ≤ a → false ≡ (int_le (left +ℤ pos a) x && int_lt x (left +ℤ pos b))
no-room left x a b h = empty-between (left +ℤ pos a) (left +ℤ pos b) x (places-le left b a h)

not_same-assoc : (a b c : Bool) → not_same a (not_same b c) ≡ not_same (not_same a b) c
not_same-assoc true true true = refl
not_same-assoc true true false = refl
not_same-assoc true false true = refl
not_same-assoc true false false = refl
not_same-assoc false true true = refl
not_same-assoc false true false = refl
not_same-assoc false false true = refl
not_same-assoc false false false = refl

not_same-false : (a : Bool) → not_same a false ≡ a
not_same-false true = refl
not_same-false false = refl

-- one more cut at the end
pub above-push : (left : ℤ) (cs : List ℕ) (c : ℕ) (x : ℤ) → is_odd_above left (cs ++ c ∷ []) x ≡ not_same (is_odd_above left cs x) (int_lt x (left +ℤ pos c))
above-push left [] c x = not_same-false (int_lt x (left +ℤ pos c)) ∙ sym (false-same (int_lt x (left +ℤ pos c)))
above-push left (d ∷ cs) c x = ap (λ b. not_same (int_lt x (left +ℤ pos d)) b) (above-push left cs c x) ∙ not_same-assoc (int_lt x (left +ℤ pos d)) (is_odd_above left cs x) (int_lt x (left +ℤ pos c))

-- below all of rising cuts, their number decides
pub below-all : (left x : ℤ) (start : ℕ) (cs : List ℕ) → AreRisingFrom start cs → x <ℤ (left +ℤ pos start) → is_odd_above left cs x ≡ is_odd (length cs)
below-all left x start [] r h = refl
below-all left x start (c ∷ cs) r h =
    let k : x <ℤ (left +ℤ pos c) = further left x start c h r.0 in
    ap (λ b. not_same b (is_odd_above left cs x)) (lt-lt_test x (left +ℤ pos c) k) ∙ ap (λ b. not_same true b) (below-all left x c cs r.1 k) ∙ true-not-same (is_odd (length cs))

-- a step of the spans: i inside, s from the start on, t before the cut, o an odd number of the later cuts
meets-step : (i o t s : Bool) → (t ≡ true → o ≡ not i) → (t ≡ false → s ≡ true) → ((i && (s && t)) || (not t && o)) ≡ (s && not_same t o)
meets-step true true true s f g = absurd (true≢false (f refl))
meets-step true false true true f g = refl
meets-step true false true false f g = refl
meets-step false true true true f g = refl
meets-step false true true false f g = refl
meets-step false false true s f g = absurd (false≢true (f refl))
meets-step true o false true f g = step-past o
meets-step true o false false f g = absurd (false≢true (g refl))
meets-step false o false true f g = step-past o
meets-step false o false false f g = absurd (false≢true (g refl))

-- what a piece has
pub covers-piece : (left x : ℤ) (i : Bool) (start c : ℕ) → covers (piece left i start c) x ≡ (i && (int_le (left +ℤ pos start) x && int_lt x (left +ℤ pos c)))
covers-piece left x false start c = refl
covers-piece left x true start c = elim (cases_lt start c) [
  | inl lt ↦ ap (λ b. covers (cond b (record { from = left +ℤ pos start; to = left +ℤ pos c } ∷ []) []) x) (lt-ltb start c lt) ∙ or_false (is_from_to (left +ℤ pos start) x (left +ℤ pos c))
  | inr le ↦ ap (λ b. covers (cond b (record { from = left +ℤ pos start; to = left +ℤ pos c } ∷ []) []) x) (le-ltb start c le) ∙ no-room left x start c le
]

pub covers-append : (ss ts : List Span) (x : ℤ) → covers (ss ++ ts) x ≡ (covers ss x || covers ts x)
covers-append [] ts x = refl
covers-append (s ∷ ss) ts x = ap (λ b. is_from_to s.from x s.to || b) (covers-append ss ts x) ∙ or-assoc (is_from_to s.from x s.to) (covers ss x) (covers ts x)

-- the spans have the x that an odd number of cuts are to the right of
pub spans-exact : (left x : ℤ) (start : ℕ) (cs : List ℕ) → AreRisingFrom start cs → covers (spans_of left (is_odd (length cs)) start cs) x ≡ (int_le (left +ℤ pos start) x && is_odd_above left cs x)
spans-exact left x start [] r = sym (and-false (int_le (left +ℤ pos start) x))
spans-exact left x start (c ∷ cs) r =
    let i = not (is_odd (length cs)) in
    let t = int_lt x (left +ℤ pos c) in
    let s = int_le (left +ℤ pos start) x in
    let o = is_odd_above left cs x in
    covers-append (piece left i start c) (spans_of left (not i) c cs) x
    ∙ ap (λ b. b || covers (spans_of left (not i) c cs) x) (covers-piece left x i start c)
    ∙ ap (λ j. (i && (s && t)) || covers (spans_of left j c cs) x) (not-not (is_odd (length cs)))
    ∙ ap (λ b. (i && (s && t)) || b) (spans-exact left x c cs r.1 ∙ ap (λ b. b && o) (le-not_lt (left +ℤ pos c) x))
    ∙ meets-step i o t s (λ e. below-all left x c cs r.1 (lt_test-true x (left +ℤ pos c) e) ∙ sym (not-not (is_odd (length cs)))) (λ e. from-start left x start c r.0 (lt_test-false x (left +ℤ pos c) e))

starts-later : (to further' : ℤ) (ss : List Span) → to ≤ℤ further' → StartsFrom further' ss → StartsFrom to ss
starts-later to further' [] h k = tt
starts-later to further' (s ∷ ss) h k = int-le-trans to further' s.from h k

-- they start at the place or later
pub spans-start : (left : ℤ) (i : Bool) (start : ℕ) (cs : List ℕ) → AreRisingFrom start cs → StartsFrom (left +ℤ pos start) (spans_of left i start cs)
spans-start left i start [] r = tt
spans-start left i start (c ∷ cs) r = elim (cases_Bool (i && nat_lt start c)) [
  | inl e ↦ let P = λ (b : Bool). StartsFrom (left +ℤ pos start) (cond b (record { from = left +ℤ pos start; to = left +ℤ pos c } ∷ []) [] ++ spans_of left (not i) c cs) in subst P (sym e) (int-le-refl (left +ℤ pos start))
  | inr e ↦ let P = λ (b : Bool). StartsFrom (left +ℤ pos start) (cond b (record { from = left +ℤ pos start; to = left +ℤ pos c } ∷ []) [] ++ spans_of left (not i) c cs) in subst P (sym e) (starts-later (left +ℤ pos start) (left +ℤ pos c) (spans_of left (not i) c cs) (places-le left start c r.0) (spans-start left (not i) c cs r.1))
]

pub spans-rising : (left : ℤ) (i : Bool) (start : ℕ) (cs : List ℕ) → AreRisingFrom start cs → AreRising (spans_of left i start cs)
spans-rising left i start [] r = tt
spans-rising left i start (c ∷ cs) r = elim (cases_Bool (i && nat_lt start c)) [
  | inl e ↦ let P = λ (b : Bool). AreRising (cond b (record { from = left +ℤ pos start; to = left +ℤ pos c } ∷ []) [] ++ spans_of left (not i) c cs) in subst P (sym e) (places-lt left start c (and-lt i start c e), spans-start left (not i) c cs r.1, spans-rising left (not i) c cs r.1)
  | inr e ↦ let P = λ (b : Bool). AreRising (cond b (record { from = left +ℤ pos start; to = left +ℤ pos c } ∷ []) [] ++ spans_of left (not i) c cs) in subst P (sym e) (spans-rising left (not i) c cs r.1)
]

is_odd-bit : (b : Bool) (n : ℕ) → is_odd (cond b 1 0 + n) ≡ not_same b (is_odd n)
is_odd-bit true n = let e : 1 + n ≡ suc n = omega arith in ap is_odd e ∙ sym (true-not-same (is_odd n))
is_odd-bit false n = let e : 0 + n ≡ n = omega arith in ap is_odd e ∙ sym (false-same (is_odd n))

-- the cuts to the right are counted
pub above-count : (left x : ℤ) (cs : List ℕ) → is_odd_above left cs x ≡ is_odd (sum_by (λ c. cond (int_lt x (left +ℤ pos c)) 1 0) cs)
above-count left x [] = refl
above-count left x (c ∷ cs) =
    ap (λ b. not_same (int_lt x (left +ℤ pos c)) b) (above-count left x cs)
    ∙ sym (is_odd-bit (int_lt x (left +ℤ pos c)) (sum_by (λ c. cond (int_lt x (left +ℤ pos c)) 1 0) cs))
    ∙ ap is_odd (sym (sum_by-cons (λ c. cond (int_lt x (left +ℤ pos c)) 1 0) c cs))

-- so their order does not matter
pub above-moved : (left x : ℤ) (cs ds : List ℕ) → IsPermutation cs ds → is_odd_above left ds x ≡ is_odd_above left cs x
above-moved left x cs ds p = above-count left x ds ∙ ap is_odd (sum_by-IsPermutation (λ c. cond (int_lt x (left +ℤ pos c)) 1 0) cs ds p) ∙ sym (above-count left x cs)

tail-sorted : (c : ℕ) (cs : List ℕ) → IsNonDecreasing (c ∷ cs) → IsNonDecreasing cs
tail-sorted c cs h = λ i j d p q. h (suc i) (suc j) d (omega arith) (omega arith)

-- sorted cuts rise
pub rising-sorted : (start : ℕ) (cs : List ℕ) → IsNonDecreasing cs → ((d : ℕ) → 0 < length cs → start ≤ get_or cs 0 d) → AreRisingFrom start cs
rising-sorted start [] h f = tt
rising-sorted start (c ∷ cs) h f = (f 0 (omega arith), rising-sorted c cs (tail-sorted c cs h) (λ d k. h 0 1 d (omega arith) (omega arith)))

pub rising-from_sort : (cs : List ℕ) → IsSorted nat_cmp cs → AreRisingFrom 0 cs
rising-from_sort cs h = rising-sorted 0 cs (IsNonDecreasingBy-from_sort (λ x. x) cs h) (λ d k. omega arith)

-- the order of the cuts does not matter
pub cuts-moved : (left right : ℤ) (cs ds : List ℕ) (test : ℤ → Bool) → IsPermutation cs ds → AreCuts left right cs test → AreCuts left right ds test
cuts-moved left right cs ds test p h = record {
  exact = λ x a b. above-moved left x cs ds p ∙ h.exact x a b;
  inside = All-permutation (λ c. (left +ℤ pos c) ≤ℤ right) cs ds p h.inside;
}

-- past the row no cut counts
pub past-all : (left right x : ℤ) (cs : List ℕ) → AreWithin left right cs → right ≤ℤ x → is_odd_above left cs x ≡ false
past-all left right x [] w h = refl
past-all left right x (c ∷ cs) w h =
    let k : (left +ℤ pos c) ≤ℤ x = int-le-trans (left +ℤ pos c) right x (All-head (λ c. (left +ℤ pos c) ≤ℤ right) c cs w) h in
    ap (λ b. not_same b (is_odd_above left cs x)) (le-lt_test x (left +ℤ pos c) k) ∙ false-same (is_odd_above left cs x) ∙ past-all left right x cs (All-tail (λ c. (left +ℤ pos c) ≤ℤ right) c cs w) h

from-zero : (left x : ℤ) → int_le (left +ℤ pos 0) x ≡ int_le left x
from-zero left x = grind (arith, ints)

in-row : (left right x : ℤ) (cs : List ℕ) (test : ℤ → Bool) → AreCuts left right cs test → (int_le left x && is_odd_above left cs x) ≡ (is_from_to left x right && test x)
in-row left right x cs test h = elim (cases_Bool (int_le left x)) [
  | inl e ↦ elim (cases_Bool (int_lt x right)) [
    | inl f ↦
        ap (λ b. b && is_odd_above left cs x) e ∙ h.exact x (le_test-true left x e) (lt_test-true x right f) ∙ sym (ap (λ b. (b && int_lt x right) && test x) e ∙ ap (λ b. b && test x) f)
    | inr f ↦
        ap (λ b. b && is_odd_above left cs x) e ∙ past-all left right x cs h.inside (lt_test-false x right f) ∙ sym (ap (λ b. (b && int_lt x right) && test x) e ∙ ap (λ b. b && test x) f)
  ]
  | inr e ↦ ap (λ b. b && is_odd_above left cs x) e ∙ sym (ap (λ b. (b && int_lt x right) && test x) e)
]

-- the spans between rising cuts are those of their test
pub spans-of_cuts : (left right : ℤ) (cs : List ℕ) (test : ℤ → Bool) → AreCuts left right cs test → AreRisingFrom 0 cs → IsSpans (spans_of left (is_odd (length cs)) 0 cs) (within left right test)
spans-of_cuts left right cs test h r = record {
  rising = spans-rising left (is_odd (length cs)) 0 cs r;
  exact = λ x. spans-exact left x 0 cs r ∙ ap (λ b. b && is_odd_above left cs x) (from-zero left x) ∙ in-row left right x cs test h;
}

-- a step along the edges: one goes from the rest to the cuts
pub edge-step : (left right y : ℤ) (old new : List ℕ) (p q : Point) (qs : List Point) (start : ℤ → Bool) → AddsCut left right old new (λ x. counts p q x y) → ((x : ℤ) → left ≤ℤ x → x <ℤ right → not_same (is_odd_above left old x) (is_odd_along p (q ∷ qs) x y) ≡ start x) → (x : ℤ) → left ≤ℤ x → x <ℤ right → not_same (is_odd_above left new x) (is_odd_along q qs x y) ≡ start x
edge-step left right y old new p q qs start a h x l r =
    ap (λ b. not_same b (is_odd_along q qs x y)) (a.toggles x l r) ∙ sym (not_same-assoc (is_odd_above left old x) (counts p q x y) (is_odd_along q qs x y)) ∙ h x l r

within-push : (left right : ℤ) (cs : List ℕ) (c : ℕ) → AreWithin left right cs → (left +ℤ pos c) ≤ℤ right → AreWithin left right (cs ++ c ∷ [])
within-push left right cs c w b = All-push (λ c. (left +ℤ pos c) ≤ℤ right) cs c w b

-- an edge that counts up to a place
pub adds-cut : (left right : ℤ) (old new : List ℕ) (c : ℕ) (test : ℤ → Bool) → new ≡ old ++ c ∷ [] → ((x : ℤ) → left ≤ℤ x → x <ℤ right → test x ≡ int_lt x (left +ℤ pos c)) → (left +ℤ pos c) ≤ℤ right → AddsCut left right old new test
adds-cut left right old new c test e t b = record {
  toggles = λ x l r. ap (λ cs. is_odd_above left cs x) e ∙ above-push left old c x ∙ ap (λ u. not_same (is_odd_above left old x) u) (sym (t x l r));
  inside = λ w. let P : List ℕ → Type 0 = λ cs. AreWithin left right cs in subst P (sym e) (within-push left right old c w b);
}

-- an edge that counts nowhere in the row
pub adds-none : (left right : ℤ) (old : List ℕ) (test : ℤ → Bool) → ((x : ℤ) → test x ≡ false) → AddsCut left right old old test
adds-none left right old test t = record {
  toggles = λ x l r. sym (not_same-false (is_odd_above left old x)) ∙ ap (λ u. not_same (is_odd_above left old x) u) (sym (t x));
  inside = λ w. w;
}

odd-suc : (n : ℕ) → eqb (suc n % 2) 1 ≡ not (eqb (n % 2) 1)
odd-suc n = elim (cases_lt (n % 2) 1) [
  | inl lt ↦
      let e : suc n % 2 ≡ 1 = omega arith in
      eq-eqb (suc n % 2) 1 e ∙ sym (ap not (ne_eqb (n % 2) 1 (λ h. omega arith)))
  | inr le ↦
      let e : n % 2 ≡ 1 = omega arith in
      ne_eqb (suc n % 2) 1 (λ h. omega arith) ∙ sym (ap not (eq-eqb (n % 2) 1 e))
]

pub odd-size : (n : ℕ) → eqb (n % 2) 1 ≡ is_odd n
odd-size zero = refl
odd-size (suc n) = odd-suc n ∙ ap not (odd-size n)

last-at : (p : Point) (ps : List Point) (d : Point) → get_or (p ∷ ps) (length ps) d ≡ last_of p ps
last-at p [] d = refl
last-at p (q ∷ qs) d = last-at q qs d

-- from the last vertex along all of them is all edges
pub last-edge : (points : List Point) (d : Point) (x y : ℤ) → 0 < length points → is_odd_along (get_or points (length points - 1) d) points x y ≡ is_in_polygon points x y
last-edge [] d x y h = absurd (omega arith)
last-edge (p ∷ ps) d x y h =
    let e : length (p ∷ ps) - 1 ≡ length ps = omega arith in
    ap (λ n. is_odd_along (get_or (p ∷ ps) n d) (p ∷ ps) x y) e ∙ ap (λ q. is_odd_along q (p ∷ ps) x y) (last-at p ps d)

-- the edges left at a step
pub edges-step : (left right y : ℤ) (old new : List ℕ) (p q d : Point) (points : List Point) (i : ℕ) (start : ℤ → Bool) → i < length points → q ≡ get_or points i d → AddsCut left right old new (λ x. counts p q x y) → ((x : ℤ) → left ≤ℤ x → x <ℤ right → not_same (is_odd_above left old x) (is_odd_along p (drop i points) x y) ≡ start x) → (x : ℤ) → left ≤ℤ x → x <ℤ right → not_same (is_odd_above left new x) (is_odd_along q (drop (i + 1) points) x y) ≡ start x
edges-step left right y old new p q d points i start lt eq a h =
    let e : drop i points ≡ q ∷ drop (i + 1) points = drop-cons points i d lt ∙ ap (λ z. z ∷ drop (suc i) points) (sym eq) ∙ ap (λ n. q ∷ drop n points) (sym (add-one i)) in
    edge-step left right y old new p q (drop (i + 1) points) start a (λ x l r. ap (λ ps. not_same (is_odd_above left old x) (is_odd_along p ps x y)) (sym e) ∙ h x l r)

-- no edge is left
pub edges-done : (left y x : ℤ) (cs : List ℕ) (p : Point) (points : List Point) (i : ℕ) (b : Bool) → length points ≤ i → not_same (is_odd_above left cs x) (is_odd_along p (drop i points) x y) ≡ b → is_odd_above left cs x ≡ b
edges-done left y x cs p points i b le h = sym (not_same-false (is_odd_above left cs x)) ∙ ap (λ ps. not_same (is_odd_above left cs x) (is_odd_along p ps x y)) (sym (drop_of_length-le points le)) ∙ h

-- the spans left at a step
pub pieces-step : (left : ℤ) (inside : Bool) (start c d : ℕ) (out new target : List Span) (cuts : List ℕ) (i : ℕ) → i < length cuts → c ≡ get_or cuts i d → new ≡ out ++ piece left inside start c → out ++ spans_of left inside start (drop i cuts) ≡ target → new ++ spans_of left (not inside) c (drop (i + 1) cuts) ≡ target
pieces-step left inside start c d out new target cuts i lt eq en h =
    let e : drop i cuts ≡ c ∷ drop (i + 1) cuts = drop-cons cuts i d lt ∙ ap (λ z. z ∷ drop (suc i) cuts) (sym eq) ∙ ap (λ n. c ∷ drop n cuts) (sym (add-one i)) in
    ap (λ l. l ++ spans_of left (not inside) c (drop (i + 1) cuts)) en
    ∙ append_assoc out (piece left inside start c) (spans_of left (not inside) c (drop (i + 1) cuts))
    ∙ ap (λ l. out ++ spans_of left inside start l) (sym e) ∙ h

-- what is appended keeps what was there
pub kept-step : (old out new more : List Span) → new ≡ out ++ more → length old ≤ length out → take (length old) out ≡ old → take (length old) new ≡ old
kept-step old out new more e le h = ap (take (length old)) e ∙ take-append-le (length old) out more le ∙ h

-- a step along the edges, of one pixel
pub holds-step : (i c start : Bool) (p q d : Point) (points : List Point) (k : ℕ) (x y : ℤ) → k < length points → q ≡ get_or points k d → c ≡ counts p q x y → not_same i (is_odd_along p (drop k points) x y) ≡ start → not_same (not_same i c) (is_odd_along q (drop (k + 1) points) x y) ≡ start
holds-step i c start p q d points k x y lt eq ec h =
    let e : drop k points ≡ q ∷ drop (k + 1) points = drop-cons points k d lt ∙ ap (λ z. z ∷ drop (suc k) points) (sym eq) ∙ ap (λ n. q ∷ drop n points) (sym (add-one k)) in
    ap (λ b. not_same (not_same i b) (is_odd_along q (drop (k + 1) points) x y)) ec
    ∙ sym (not_same-assoc i (counts p q x y) (is_odd_along q (drop (k + 1) points) x y))
    ∙ ap (λ ps. not_same i (is_odd_along p ps x y)) (sym e) ∙ h

pub holds-done : (i start : Bool) (p : Point) (points : List Point) (k : ℕ) (x y : ℤ) → length points ≤ k → not_same i (is_odd_along p (drop k points) x y) ≡ start → i ≡ start
holds-done i start p points k x y le h = sym (not_same-false i) ∙ ap (λ ps. not_same i (is_odd_along p ps x y)) (sym (drop_of_length-le points le)) ∙ h

-- ---- spans between the cuts of a row, one by one
pub cut-step : (left : ℤ) (inside : Bool) (start k d : ℕ) (cuts : List ℕ) (out new all : List Span) → k < length cuts → new ≡ out ++ piece left inside start (get_or cuts k d) → out ++ spans_of left inside start (drop k cuts) ≡ all → new ++ spans_of left (not inside) (get_or cuts k d) (drop (k + 1) cuts) ≡ all
cut-step left inside start k d cuts out new all lt en h =
    let cut = get_or cuts k d in
    let e : drop k cuts ≡ cut ∷ drop (k + 1) cuts = drop-cons cuts k d lt ∙ ap (λ n. cut ∷ drop n cuts) (sym (add-one k)) in
    ap (λ l. l ++ spans_of left (not inside) cut (drop (k + 1) cuts)) en
    ∙ append_assoc out (piece left inside start cut) (spans_of left (not inside) cut (drop (k + 1) cuts))
    ∙ ap (λ cs. out ++ spans_of left inside start cs) (sym e)
    ∙ h

pub cut-done : (left : ℤ) (inside first odd : Bool) (start k : ℕ) (cuts : List ℕ) (old out : List Span) → length cuts ≤ k → first ≡ odd → out ++ spans_of left inside start (drop k cuts) ≡ old ++ spans_of left first 0 cuts → out ≡ old ++ spans_of left odd 0 cuts
cut-done left inside first odd start k cuts old out le e h =
    sym (append-nil out) ∙ ap (λ cs. out ++ spans_of left inside start cs) (sym (drop_of_length-le cuts le)) ∙ h ∙ ap (λ b. old ++ spans_of left b 0 cuts) e

pub more-step : (old out new more : List Span) → new ≡ out ++ more → length old ≤ length out → length old ≤ length new
more-step old out new more e le = subst (λ l. length old ≤ length l) (sym e) (omega (arith, le, length-append out more))
