-- What ends that are held within a range cut out of it.
use Rattle.canvas_shape.proofs.Edge.{le_test-true, le_test-false}
use Rattle.std.proofs.Common.{pos, negsuc, ◌<◌, ◌^◌, cond, ◌≡◌, List, [], ◌∷◌, ◌++◌, ℤ, ◌<ℤ◌, ◌≤ℤ◌, Bool, true, false, ◌&&◌, ◌||◌, refl, sym, ap, ◌∙◌, arith, length, take, drop, subst, FitsSigned, to_z, of_z, ℕ, ◌≤◌, ◌+ℤ◌, min, lit<, lt_trans}
use Rattle.std.specs.Prelude.{int_le, int_lt}
use Rattle.std.specs.Int.{w32, w64}
use Rattle.std.proofs.lemmas.Int.{ints, to_z-of_z, to_z_pos}
use Rattle.std.proofs.lemmas.List.{take_all, take-append-le, drop-append-le}
use Rattle.std.proofs.Math.Seq.{drop-length}
use Rattle.canvas_shape.specs.declared.Span.{Span}
use Rattle.canvas_shape.proofs.Sizes.{widened, wide-fits, place-most}
use Rattle.canvas_shape.specs.Spans.{is_from_to, held, IsSpans, AppendsSpans, within}

-- x between the held ends is x in the range and between the ends
pub held-test : (left right a b x : ℤ) → left ≤ℤ right → is_from_to (held left a right) x (held left b right) ≡ (is_from_to left x right && is_from_to a x b)
held-test left right a b x h = grind (arith, ints)

or_false : (b : Bool) → (b || false) ≡ b
or_false true = refl
or_false false = refl

pub cut-some : (from to left right : ℤ) (s : Span) → left ≤ℤ right → s.from ≡ held left from right → s.to ≡ held left to right → s.from <ℤ s.to → IsSpans (s ∷ []) (within left right (λ x. is_from_to from x to))
cut-some from to left right s h f t lt = record {
  rising = (lt, tt, tt);
  exact = λ x. or_false (is_from_to s.from x s.to) ∙ ap (λ z. is_from_to z x s.to) f ∙ ap (λ z. is_from_to (held left from right) x z) t ∙ held-test left right from to x h;
}

-- a range that holds something is not empty
range-filled : (from to left right : ℤ) → left ≤ℤ right → held left from right <ℤ held left to right → left <ℤ right
range-filled from to left right h lt = grind (arith, ints)

pub some-range : (from to left right a b : ℤ) → left ≤ℤ right → a ≡ held left from right → b ≡ held left to right → a <ℤ b → left <ℤ right
some-range from to left right a b h f t lt = range-filled from to left right h (subst (λ z. z <ℤ held left to right) f (subst (λ z. a <ℤ z) t lt))

empty-range : (from to x : ℤ) → to ≤ℤ from → false ≡ is_from_to from x to
empty-range from to x h = grind (arith, ints)

pub cut-none : (from to left right a b : ℤ) → left ≤ℤ right → a ≡ held left from right → b ≡ held left to right → b ≤ℤ a → IsSpans [] (within left right (λ x. is_from_to from x to))
cut-none from to left right a b h f t le = record {
  rising = tt;
  exact = λ x. empty-range a b x le ∙ ap (λ z. is_from_to z x b) f ∙ ap (λ z. is_from_to (held left from right) x z) t ∙ held-test left right from to x h;
}

pub appends-none : (old : List Span) (test : ℤ → Bool) → IsSpans [] test → AppendsSpans old old test
appends-none old test h = record {
  kept = take_all (length old) old (omega arith);
  spans = let e : [] ≡ drop (length old) old = sym (drop-length old) in subst (λ l. IsSpans l test) e h;
}

-- new is old and then spans
pub appends-spans : (old new spans : List Span) (test : ℤ → Bool) → new ≡ old ++ spans → IsSpans spans test → AppendsSpans old new test
appends-spans old new spans test e h = record {
  kept = ap (take (length old)) e ∙ take-append-le (length old) old spans (omega arith) ∙ take_all (length old) old (omega arith);
  spans = let f : spans ≡ drop (length old) new = sym (ap (drop (length old)) e ∙ drop-append-le (length old) old spans (omega arith) ∙ ap (λ l. l ++ spans) (drop-length old)) in subst (λ l. IsSpans l test) f h;
}

pub IsSpans-same : (spans : List Span) (s t : ℤ → Bool) → ((x : ℤ) → s x ≡ t x) → IsSpans spans s → IsSpans spans t
IsSpans-same spans s t e h = record { rising = h.rising; exact = λ x. h.exact x ∙ e x }

-- the test may be another that says the same
pub AppendsSpans-same : (old new : List Span) (s t : ℤ → Bool) → ((x : ℤ) → s x ≡ t x) → AppendsSpans old new s → AppendsSpans old new t
AppendsSpans-same old new s t e h = record { kept = h.kept; spans = IsSpans-same (drop (length old) new) s t e h.spans }

false-within : (b : Bool) → false ≡ (b && false)
false-within true = refl
false-within false = refl

-- nothing passes, so nothing is appended
pub appends-nothing : (old : List Span) (left right : ℤ) (test : ℤ → Bool) → ((x : ℤ) → test x ≡ false) → AppendsSpans old old (within left right test)
appends-nothing old left right test e = appends-none old (within left right test) (record { rising = tt; exact = λ x. false-within (is_from_to left x right) ∙ ap (λ t. is_from_to left x right && t) (sym (e x)) })

pub lt-from_test : (a b : ℤ) → int_lt a b ≡ true → a <ℤ b
lt-from_test a b h = grind (arith, ints)

pub le-from_test : (a b : ℤ) → int_lt a b ≡ false → b ≤ℤ a
le-from_test a b h = grind (arith, ints)

-- a range that has no pixel, or one
pub appends-outside : (old : List Span) (left right : ℤ) (test : ℤ → Bool) → FitsSigned w32 left → FitsSigned w32 right → int_le (to_z w32 (of_z w32 right)) (to_z w32 (of_z w32 left)) ≡ true → AppendsSpans old old (within left right test)
appends-outside old left right test fl fr h =
    let le : right ≤ℤ left = le_test-true right left (ap (λ z. int_le z left) (sym (to_z-of_z w32 right fr)) ∙ ap (int_le (to_z w32 (of_z w32 right))) (sym (to_z-of_z w32 left fl)) ∙ h) in
    appends-none old (within left right test) (record { rising = tt; exact = λ x. ap (λ b. b && test x) (empty-range left right x le) })

pub range-some : (left right : ℤ) → FitsSigned w32 left → FitsSigned w32 right → int_le (to_z w32 (of_z w32 right)) (to_z w32 (of_z w32 left)) ≡ false → left <ℤ right
range-some left right fl fr h = le_test-false right left (ap (λ z. int_le z left) (sym (to_z-of_z w32 right fr)) ∙ ap (int_le (to_z w32 (of_z w32 right))) (sym (to_z-of_z w32 left fl)) ∙ h)

-- ---- an edge that is held in a range
edge-below : (edge left r : ℤ) (b : Bool) → FitsSigned w64 edge → FitsSigned w32 left → FitsSigned w64 r → r ≡ to_z w32 (of_z w32 left) → int_lt (to_z w64 (of_z w64 edge)) (to_z w64 (of_z w64 r)) ≡ b → int_lt edge left ≡ b
edge-below edge left r b fe fl fr e h = ap (int_lt edge) (sym (widened left r fl fr e)) ∙ ap (λ z. int_lt z (to_z w64 (of_z w64 r))) (sym (to_z-of_z w64 edge fe)) ∙ h

edge-above : (edge right r : ℤ) (b : Bool) → FitsSigned w64 edge → FitsSigned w32 right → FitsSigned w64 r → r ≡ to_z w32 (of_z w32 right) → int_lt (to_z w64 (of_z w64 r)) (to_z w64 (of_z w64 edge)) ≡ b → int_lt right edge ≡ b
edge-above edge right r b fe fl fr e h = ap (λ z. int_lt z edge) (sym (widened right r fl fr e)) ∙ ap (int_lt (to_z w64 (of_z w64 r))) (sym (to_z-of_z w64 edge fe)) ∙ h

fits-between : (l z r : ℤ) → FitsSigned w32 l → FitsSigned w32 r → l ≤ℤ z → z ≤ℤ r → FitsSigned w32 z
fits-between l (pos n) (pos m) fl fr h k = let lt : m < 2 ^ 31 = fr.sfits in record { sfits = omega (arith, ints, lt, k) }
fits-between l (pos n) (negsuc m) fl fr h k = absurd (omega (arith, ints, k))
fits-between (pos i) (negsuc n) r fl fr h k = absurd (omega (arith, ints, h))
fits-between (negsuc i) (negsuc n) r fl fr h k = let lt : i < 2 ^ 31 = fl.sfits in record { sfits = omega (arith, ints, lt, h) }

le-self : (z : ℤ) → z ≤ℤ z
le-self z = omega (arith, ints)

pub held-left : (left edge right r : ℤ) → FitsSigned w64 edge → FitsSigned w32 left → FitsSigned w64 r → r ≡ to_z w32 (of_z w32 left) → int_lt (to_z w64 (of_z w64 edge)) (to_z w64 (of_z w64 r)) ≡ true → to_z w32 (of_z w32 left) ≡ held left edge right
held-left left edge right r fe fl fr e h =
    to_z-of_z w32 left fl ∙ sym (ap (λ b. cond b left (cond (int_lt right edge) right edge)) (edge-below edge left r true fe fl fr e h))

pub left-within : (left right : ℤ) → FitsSigned w32 left → left ≤ℤ right → (left ≤ℤ to_z w32 (of_z w32 left)) × (to_z w32 (of_z w32 left) ≤ℤ right)
left-within left right fl le = subst (λ z. (left ≤ℤ z) × (z ≤ℤ right)) (sym (to_z-of_z w32 left fl)) (le-self left, le)

pub held-right : (left edge right r s : ℤ) → FitsSigned w64 edge → FitsSigned w32 left → FitsSigned w32 right → FitsSigned w64 r → FitsSigned w64 s → r ≡ to_z w32 (of_z w32 left) → s ≡ to_z w32 (of_z w32 right) → int_lt (to_z w64 (of_z w64 edge)) (to_z w64 (of_z w64 r)) ≡ false → int_lt (to_z w64 (of_z w64 s)) (to_z w64 (of_z w64 edge)) ≡ true → to_z w32 (of_z w32 right) ≡ held left edge right
held-right left edge right r s fe fl fr ar bs er es h k =
    to_z-of_z w32 right fr
    ∙ sym (ap (λ b. cond b left (cond (int_lt right edge) right edge)) (edge-below edge left r false fe fl ar er h) ∙ ap (λ b. cond b right edge) (edge-above edge right s true fe fr bs es k))

pub right-within : (left right : ℤ) → FitsSigned w32 right → left ≤ℤ right → (left ≤ℤ to_z w32 (of_z w32 right)) × (to_z w32 (of_z w32 right) ≤ℤ right)
right-within left right fr le = subst (λ z. (left ≤ℤ z) × (z ≤ℤ right)) (sym (to_z-of_z w32 right fr)) (le, le-self right)

-- an edge inside the range
pub inside-fits : (left edge right r s : ℤ) → FitsSigned w64 edge → FitsSigned w32 left → FitsSigned w32 right → FitsSigned w64 r → FitsSigned w64 s → r ≡ to_z w32 (of_z w32 left) → s ≡ to_z w32 (of_z w32 right) → int_lt (to_z w64 (of_z w64 edge)) (to_z w64 (of_z w64 r)) ≡ false → int_lt (to_z w64 (of_z w64 s)) (to_z w64 (of_z w64 edge)) ≡ false → FitsSigned w32 (to_z w64 (of_z w64 edge))
inside-fits left edge right r s fe fl fr ar bs er es h k =
    subst (FitsSigned w32) (sym (to_z-of_z w64 edge fe))
    (fits-between left edge right fl fr (le-from_test edge left (edge-below edge left r false fe fl ar er h)) (le-from_test right edge (edge-above edge right s false fe fr bs es k)))

pub inside-is : (edge : ℤ) → FitsSigned w64 edge → FitsSigned w32 (to_z w64 (of_z w64 edge)) → to_z w32 (of_z w32 (to_z w64 (of_z w64 edge))) ≡ edge
inside-is edge fe fits = to_z-of_z w32 (to_z w64 (of_z w64 edge)) fits ∙ to_z-of_z w64 edge fe

pub held-inside : (left edge right r s : ℤ) → FitsSigned w64 edge → FitsSigned w32 left → FitsSigned w32 right → FitsSigned w64 r → FitsSigned w64 s → r ≡ to_z w32 (of_z w32 left) → s ≡ to_z w32 (of_z w32 right) → int_lt (to_z w64 (of_z w64 edge)) (to_z w64 (of_z w64 r)) ≡ false → int_lt (to_z w64 (of_z w64 s)) (to_z w64 (of_z w64 edge)) ≡ false → to_z w32 (of_z w32 (to_z w64 (of_z w64 edge))) ≡ held left edge right
held-inside left edge right r s fe fl fr ar bs er es h k =
    inside-is edge fe (inside-fits left edge right r s fe fl fr ar bs er es h k)
    ∙ sym (ap (λ b. cond b left (cond (int_lt right edge) right edge)) (edge-below edge left r false fe fl ar er h) ∙ ap (λ b. cond b right edge) (edge-above edge right s false fe fr bs es k))

pub inside-within : (left edge right r s : ℤ) → FitsSigned w64 edge → FitsSigned w32 left → FitsSigned w32 right → FitsSigned w64 r → FitsSigned w64 s → r ≡ to_z w32 (of_z w32 left) → s ≡ to_z w32 (of_z w32 right) → int_lt (to_z w64 (of_z w64 edge)) (to_z w64 (of_z w64 r)) ≡ false → int_lt (to_z w64 (of_z w64 s)) (to_z w64 (of_z w64 edge)) ≡ false → (left ≤ℤ to_z w32 (of_z w32 (to_z w64 (of_z w64 edge)))) × (to_z w32 (of_z w32 (to_z w64 (of_z w64 edge))) ≤ℤ right)
inside-within left edge right r s fe fl fr ar bs er es h k =
    subst (λ z. (left ≤ℤ z) × (z ≤ℤ right)) (sym (inside-is edge fe (inside-fits left edge right r s fe fl fr ar bs er es h k)))
    (le-from_test edge left (edge-below edge left r false fe fl ar er h), le-from_test right edge (edge-above edge right s false fe fr bs es k))

pub held-kept : (left z right : ℤ) → FitsSigned w32 left → FitsSigned w64 z → FitsSigned w32 right → held (to_z w32 (of_z w32 left)) (to_z w64 (of_z w64 z)) (to_z w32 (of_z w32 right)) ≡ held left z right
held-kept left z right fl fz fr =
    ap (λ u. held u (to_z w64 (of_z w64 z)) (to_z w32 (of_z w32 right))) (to_z-of_z w32 left fl)
    ∙ ap (λ u. held left u (to_z w32 (of_z w32 right))) (to_z-of_z w64 z fz)
    ∙ ap (held left z) (to_z-of_z w32 right fr)

-- ---- the right end of a row that is so wide
most-fits : FitsSigned w32 (pos 2147483647)
most-fits = record { sfits = lit< tt }

no-less : (z : ℤ) (n : ℕ) → z ≤ℤ (z +ℤ pos n)
no-less z n = omega (arith, ints)

end-words : (left r : ℤ) (width : ℕ) → FitsSigned w32 left → FitsSigned w64 r → width < 2 ^ 32 → r ≡ to_z w32 (of_z w32 left) → to_z w64 (of_z w64 r) +ℤ to_z w64 width ≡ left +ℤ pos width
end-words left r width fl fr fw e =
    ap (λ z. z +ℤ to_z w64 width) (widened left r fl fr e) ∙ ap (λ z. left +ℤ z) (to_z_pos w64 width (lt_trans fw (lit< tt)))

pub end-is : (left r : ℤ) (width : ℕ) → FitsSigned w32 left → FitsSigned w64 r → width < 2 ^ 32 → r ≡ to_z w32 (of_z w32 left) → (left +ℤ pos width) ≤ℤ pos 2147483647 → to_z w32 (of_z w32 (to_z w64 (of_z w64 (to_z w64 (of_z w64 r) +ℤ to_z w64 width)))) ≡ left +ℤ pos width
end-is left r width fl fr fw e most =
    let end = left +ℤ pos width in
    let fits = fits-between left end (pos 2147483647) fl most-fits (no-less left width) most in
    ap (λ z. to_z w32 (of_z w32 (to_z w64 (of_z w64 z)))) (end-words left r width fl fr fw e)
    ∙ ap (λ z. to_z w32 (of_z w32 z)) (to_z-of_z w64 end (wide-fits end fits))
    ∙ to_z-of_z w32 end fits

pub end-ordered : (left r : ℤ) (width : ℕ) → FitsSigned w32 left → FitsSigned w64 r → width < 2 ^ 32 → r ≡ to_z w32 (of_z w32 left) → (left +ℤ pos width) ≤ℤ pos 2147483647 → to_z w32 (of_z w32 left) ≤ℤ to_z w32 (of_z w32 (to_z w64 (of_z w64 (to_z w64 (of_z w64 r) +ℤ to_z w64 width))))
end-ordered left r width fl fr fw e most =
    subst (λ z. to_z w32 (of_z w32 left) ≤ℤ z) (sym (end-is left r width fl fr fw e most))
    (subst (λ z. z ≤ℤ (left +ℤ pos width)) (sym (to_z-of_z w32 left fl)) (no-less left width))

pub cut-inside : (left right : ℤ) (cut n width : ℕ) → cut ≡ min n width → right ≡ left +ℤ pos width → (left +ℤ pos cut) ≤ℤ right
cut-inside left right cut n width e r = let le : min n width ≤ width = omega arith in omega (arith, ints, e, r, le)

pub end-fits : (left r : ℤ) (width : ℕ) → FitsSigned w32 left → FitsSigned w64 r → width < 2 ^ 32 → r ≡ to_z w32 (of_z w32 left) → (left +ℤ pos width) ≤ℤ pos 2147483647 → FitsSigned w32 (to_z w64 (of_z w64 (to_z w64 (of_z w64 r) +ℤ to_z w64 width)))
end-fits left r width fl fr fw e most =
    let end = left +ℤ pos width in
    let fits = fits-between left end (pos 2147483647) fl most-fits (no-less left width) most in
    subst (FitsSigned w32) (sym (ap (λ z. to_z w64 (of_z w64 z)) (end-words left r width fl fr fw e) ∙ to_z-of_z w64 end (wide-fits end fits))) fits

le-most : (z r m : ℤ) → z ≤ℤ r → r ≤ℤ m → z ≤ℤ m
le-most z r m h k = omega (arith, ints)

pub pixel-end : (z right : ℤ) → FitsSigned w32 right → z ≤ℤ right → z ≤ℤ pos 2147483647
pixel-end z right fits le = le-most z right (pos 2147483647) le (place-most right fits)

-- ---- a place that is held in a row
pub place-within : (left right k : ℤ) (d : ℕ) → FitsSigned w32 left → FitsSigned w32 right → FitsSigned w32 k → to_z w32 (of_z w32 left) +ℤ pos d ≡ to_z w32 (of_z w32 k) → k ≤ℤ to_z w32 (of_z w32 right) → (left +ℤ pos d) ≤ℤ right
place-within left right k d fl fr fk e le =
    let f : left +ℤ pos d ≡ k = ap (λ z. z +ℤ pos d) (sym (to_z-of_z w32 left fl)) ∙ e ∙ to_z-of_z w32 k fk in
    subst (λ z. z ≤ℤ right) (sym f) (subst (λ z. k ≤ℤ z) (to_z-of_z w32 right fr) le)

pub place-after : (left k : ℤ) → FitsSigned w32 k → to_z w32 (of_z w32 left) ≤ℤ k → to_z w32 (of_z w32 left) ≤ℤ to_z w32 (of_z w32 k)
place-after left k fk le = subst (λ z. to_z w32 (of_z w32 left) ≤ℤ z) (sym (to_z-of_z w32 k fk)) le
