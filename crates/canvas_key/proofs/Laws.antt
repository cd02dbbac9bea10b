-- The key between two keys is a key, and lies strictly between them.
use Rattle.std.proofs.Common.{◌≡◌, ◌≢◌, ℕ, zero, suc, ◌+◌, ◌-◌, ◌<◌, ◌≤◌, Bool, true, false, List, [], ◌∷◌, ◌++◌, Option, Some, None, Ok, ◌⊎◌, inl, inr, refl, sym, ap, ◌∙◌, subst, arith, ltb, eqb, length, drop, get_or, replicate}
use Rattle.std.specs.Prelude.{pos, ◌+ℤ◌, ◌-ℤ◌, ◌&&◌}
use Rattle.std.specs.List.{list_all}
use Rattle.std.specs.Cmp.Lexicographic.{slice_cmp, same_text, other_text}
use Rattle.std.specs.Ordering.{nat_cmp, is_lt}
use Rattle.std.specs.declared.cmp.Ordering.{Ordering}
use Rattle.std.specs.declared.cmp.Ordering.TheVariants.{Less, Equal, Greater}
use Rattle.std.proofs.lemmas.Bool.{cond-false, cond_both, and_parts, and_right, and_cases, ne_eqb, eqb-false, ltb-false, false≢true, cases_order}
use Rattle.std.proofs.lemmas.Bool.Decides.{nat_tests}
use Rattle.std.proofs.lemmas.List.{append-nil, take-append-drop}
use Rattle.canvas_key.specs.Digit.{is_digit}
use Rattle.canvas_key.specs.Text.{IsSound, is_head, integer_part_len, integer_part, fraction, least_part, is_same, IsKey, IsKeyOrNone}
use Rattle.canvas_key.specs.Order.{Before, is_before, IsAbove, IsBelow, AreApart}
use Rattle.canvas_key.specs.Part.{IsPart}
use Rattle.canvas_key.specs.Rank.{rank_of, part_after, part_before}
use Rattle.canvas_key.specs.Middle.{midpoint_above, midpoint_between}
use Rattle.canvas_key.specs.Between.{split_part, or_split, below_or_split, text_below, over_least, key_text, key_between, in_room, LiesBetween}
use Rattle.canvas_key.proofs.Parts.{part-of-rank, rank-part}
use Rattle.canvas_key.proofs.Keys.{key-sound, key-part, part-sound, sound-key}
use Rattle.canvas_key.proofs.Steps.{digits-append}
use Rattle.canvas_key.proofs.Before.{Leads, before-after, before-rest, before-nothing, before-cases, not-before-back, lead-cases, leads-head}
use Rattle.canvas_key.proofs.Mids.{EndsWell, ends-on, IsMid, above-mid, mid-between}
use Rattle.canvas_key.proofs.Rising.{rank-order, only-least, next-above, next-below}

-- the last byte of a text
last-of : (xs : List ℕ) → EndsWell xs → get_or xs (length xs - 1) 0 ≢ 48
last-of [] h = absurd h
last-of (c ∷ []) h = h
last-of (c ∷ d ∷ ds) h =
    let k : length (c ∷ d ∷ ds) - 1 ≡ suc (length (d ∷ ds) - 1) = omega arith in
    λ e. last-of (d ∷ ds) h (sym (ap (λ n. get_or (c ∷ d ∷ ds) n 0) k) ∙ e)

ends-from : (xs : List ℕ) → 0 < length xs → get_or xs (length xs - 1) 0 ≢ 48 → EndsWell xs
ends-from [] l h = absurd (omega (arith, l))
ends-from (c ∷ []) l h = h
ends-from (c ∷ d ∷ ds) l h =
    let k : length (c ∷ d ∷ ds) - 1 ≡ suc (length (d ∷ ds) - 1) = omega arith in
    ends-from (d ∷ ds) (omega arith) (λ e. h (ap (λ n. get_or (c ∷ d ∷ ds) n 0) k ∙ e))

ends-append : (ps ms : List ℕ) → EndsWell ms → EndsWell (ps ++ ms)
ends-append [] ms h = h
ends-append (p ∷ ps) ms h = ends-on p (ps ++ ms) (ends-append ps ms h)

ends-drop : (n : ℕ) (xs : List ℕ) → EndsWell xs → n < length xs → EndsWell (drop n xs)
ends-drop zero xs h l = h
ends-drop (suc n) [] h l = absurd h
ends-drop (suc n) (x ∷ []) h l = absurd (omega (arith, l))
ends-drop (suc n) (x ∷ y ∷ ys) h l = ends-drop n (y ∷ ys) h (omega (arith, l))

digits-drop : (n : ℕ) (xs : List ℕ) → list_all is_digit xs ≡ true → list_all is_digit (drop n xs) ≡ true
digits-drop zero xs h = h
digits-drop (suc n) [] h = refl
digits-drop (suc n) (x ∷ xs) h = digits-drop n xs (and_parts _ _ h).1

length-drop : (n : ℕ) (xs : List ℕ) → length (drop n xs) ≡ length xs - n
length-drop zero xs = omega arith
length-drop (suc n) [] = omega arith
length-drop (suc n) (x ∷ xs) = length-drop n xs ∙ omega arith

is-same : (xs : List ℕ) → is_same xs least_part ≡ true → xs ≡ least_part
is-same xs h = same_text xs least_part (sym h)

not-same : (xs : List ℕ) → is_same xs least_part ≡ false → xs ≢ least_part
not-same xs h e = let t : is_same xs least_part ≡ true = ap (λ l. is_same l least_part) e in false≢true (sym h ∙ t)

-- an integer part with a fraction that ends well
split-least : (ps ms : List ℕ) → IsPart ps → EndsWell ms → (ps ++ ms) ≢ least_part
split-least [] ms p w e = absurd p
split-least (head ∷ ds) [] p w e = absurd w
split-least (head ∷ ds) (m ∷ ms) p w e =
    let h : head ≡ 65 = ap (λ l. get_or l 0 0) e in
    let k : integer_part_len head ≡ 27 = ap integer_part_len h in
    let l : suc (length (ds ++ m ∷ ms)) ≡ 27 = ap length e in
    omega (arith, length-append ds (m ∷ ms), l, k, p.1)
  where
    length-append : (xs ys : List ℕ) → length (xs ++ ys) ≡ length xs + length ys
    length-append [] ys = omega arith
    length-append (x ∷ xs) ys = ap suc (length-append xs ys) ∙ omega arith

other-text : (b : Bool) → (b ≡ true → ⊥) → b ≡ false
other-text true h = absurd (h refl)
other-text false h = refl

split-other : (ps ms : List ℕ) → IsPart ps → EndsWell ms → is_same (ps ++ ms) least_part ≡ false
split-other ps ms p w = other-text _ (λ e. split-least ps ms p w (is-same (ps ++ ms) e))

split-sound : (ps ms : List ℕ) → IsPart ps → list_all is_digit ms ≡ true → EndsWell ms → IsSound (ps ++ ms)
split-sound [] ms p d w = absurd p
split-sound (head ∷ ds) ms p d w =
    record {
      head = p.0;
      long = longer ds ms (integer_part_len head) p.1;
      digits = digits-append ds ms p.2 d;
      least = split-other (head ∷ ds) ms p w;
      last = and_right _ _ (ne_eqb _ _ (last-of (head ∷ ds ++ ms) (ends-append (head ∷ ds) ms w)));
    }
  where
    longer : (xs ys : List ℕ) (n : ℕ) → length xs + 1 ≡ n → n ≤ length (head ∷ xs ++ ys)
    longer xs ys n e = omega (arith, e, at-least xs ys)
      where
        at-least : (xs ys : List ℕ) → length xs ≤ length (xs ++ ys)
        at-least [] ys = omega arith
        at-least (x ∷ xs) ys = let h = at-least xs ys in omega (arith, h)

-- a key in its two pieces
pub record Pieces (text ps fs : List ℕ) : Type 0 where
  pub whole : ps ++ fs ≡ text
  pub part : IsPart ps
  pub digits : list_all is_digit fs ≡ true
  pub ends : 0 < length fs → EndsWell fs
  pub other : text ≢ least_part

head-digits : (n : ℕ) (text : List ℕ) → 0 < n → list_all is_digit (drop 1 text) ≡ true → list_all is_digit (drop n text) ≡ true
head-digits zero text p h = absurd (omega (arith, p))
head-digits (suc n) [] p h = refl
head-digits (suc n) (x ∷ xs) p h = digits-drop n xs h

part-len : (h : ℕ) → 0 < integer_part_len h
part-len h = grind (arith, nat_tests)

pub pieces-of : (text : List ℕ) → IsKey text → Pieces text (integer_part text) (fraction text)
pieces-of text k =
    let s = (key-sound text k).0 in
    let n : ℕ = integer_part_len (get_or text 0 0) in
    let q = s.last in
    record {
      whole = take-append-drop n text;
      part = key-part text k;
      digits = head-digits n text (part-len (get_or text 0 0)) s.digits;
      ends = λ l. let g = length-drop n text in let m : n < length text = omega (arith, l, g) in ends-drop n text (last text n m q) m;
      other = not-same text s.least;
    }
  where
    last : (text : List ℕ) (n : ℕ) → n < length text → (ltb n (length text) && (eqb (get_or text (length text - 1) 0) 48)) ≡ false → EndsWell text
    last text n m q = elim (and_cases (ltb n (length text)) (eqb (get_or text (length text - 1) 0) 48) q) as (λ _. EndsWell text) [
      | inl a ↦ absurd (let b = ltb-false n (length text) a in omega (arith, b, m))
      | inr b ↦ ends-from text (omega (arith, m)) (eqb-false _ _ b)
    ]

lies-split : (low high : Option (List ℕ)) (ps ms : List ℕ) → IsPart ps → list_all is_digit ms ≡ true → EndsWell ms → IsAbove low (ps ++ ms) → IsBelow high (ps ++ ms) → LiesBetween low high (over_least (ps ++ ms))
lies-split low high ps ms p d w a b =
    subst (LiesBetween low high) (sym (cond-false _ _ _ (split-other ps ms p w))) (record { sound = split-sound ps ms p d w; above = a; below = b })

lies-part : (low high : Option (List ℕ)) (ps : List ℕ) → IsPart ps → is_same ps least_part ≡ false → IsAbove low ps → IsBelow high ps → LiesBetween low high (over_least ps)
lies-part low high ps p n a b =
    subst (LiesBetween low high) (sym (cond-false _ _ _ n)) (record { sound = part-sound ps p n; above = a; below = b })

over-sound : IsSound (least_part ++ (86 ∷ []))
over-sound = record { head = refl; long = omega arith; digits = refl; least = refl; last = refl }

lies-any : (low high : Option (List ℕ)) (ps : List ℕ) → IsPart ps → ((r : List ℕ) → IsAbove low (ps ++ r)) → ((r : List ℕ) → IsBelow high (ps ++ r)) → LiesBetween low high (over_least ps)
lies-any low high ps p a b =
    cond_both (is_same ps least_part) (least_part ++ (86 ∷ [])) ps (LiesBetween low high)
    (λ e. let q = is-same ps e in record {
      sound = over-sound;
      above = subst (λ l. IsAbove low (l ++ (86 ∷ []))) q (a (86 ∷ []));
      below = subst (λ l. IsBelow high (l ++ (86 ∷ []))) q (b (86 ∷ []));
    })
    (λ e. record {
      sound = part-sound ps p e;
      above = subst (IsAbove low) (append-nil ps) (a []);
      below = subst (IsBelow high) (append-nil ps) (b []);
    })

-- the parts of the next ranks
after-leads : (ps qs : List ℕ) → IsPart ps → part_after ps ≡ Some qs → Leads ps qs
unfolding part_after
after-leads ps qs p e = rank-order (rank_of ps) (rank_of ps +ℤ pos 1) ps qs (part-of-rank ps p) e (next-above (rank_of ps))

after-part : (ps qs : List ℕ) → part_after ps ≡ Some qs → IsPart qs
unfolding part_after
after-part ps qs e = rank-part (rank_of ps +ℤ pos 1) qs e

before-leads : (ps qs : List ℕ) → IsPart ps → part_before ps ≡ Some qs → Leads qs ps
unfolding part_before
before-leads ps qs p e = rank-order (rank_of ps -ℤ pos 1) (rank_of ps) qs ps e (part-of-rank ps p) (next-below (rank_of ps))

before-part : (ps qs : List ℕ) → part_before ps ≡ Some qs → IsPart qs
unfolding part_before
before-part ps qs e = rank-part (rank_of ps -ℤ pos 1) qs e

before-least : (ps : List ℕ) → IsPart ps → part_before ps ≡ None → ps ≡ least_part
unfolding part_before
before-least ps p e = only-least (rank_of ps) ps (part-of-rank ps p) e

abbrev AllZero : List ℕ → Type 0
AllZero [] = Unit {0}
AllZero (z ∷ zs) = (z ≡ 48) × AllZero zs

zeros : AllZero (drop 1 least_part)
zeros = all 26
  where
    all : (n : ℕ) → AllZero (replicate n 48)
    all zero = tt
    all (suc n) = (refl, all n)

digit-low : (c : ℕ) → is_digit c ≡ true → 48 ≤ c
digit-low c h = grind (arith, nat_tests)

-- nothing is before the least part
zeros-first : (ds zs : List ℕ) → list_all is_digit ds ≡ true → AllZero zs → Before ds zs → length zs ≤ length ds → ⊥
zeros-first ds [] h z b l = before-nothing ds b
zeros-first [] (z ∷ zs) h a b l = omega (arith, l)
zeros-first (d ∷ ds) (z ∷ zs) h a b l =
    let p = and_parts _ _ h in
    elim (before-cases d z ds zs b) as (λ _. ⊥) [
      | inl m ↦ let g = digit-low d p.0 in omega (arith, g, m, a.0)
      | inr q ↦ zeros-first ds zs p.1 a.1 q.1 (omega (arith, l))
    ]

-- below a high end with a fraction or without
below-pieces : (b ps fs : List ℕ) → Pieces b ps fs → is_same ps least_part ≡ false → fraction b ≡ fs → integer_part b ≡ ps → LiesBetween None (Some b) (over_least (text_below b fs))
below-pieces b ps (d ∷ ds) f n e i =
    subst (λ l. LiesBetween None (Some b) (over_least l)) (sym i)
    (lies-part None (Some b) ps f.part n tt (subst (λ l. Before l b) (append-nil ps) (subst (Before (ps ++ [])) f.whole (before-after ps [] (d ∷ ds) refl))))
below-pieces b ps [] f n e i = subst (λ l. LiesBetween None (Some b) (over_least (or_split (part_before l) b))) (sym i) (by (part_before ps) refl)
  where
    by : (o : Option (List ℕ)) → part_before ps ≡ o → LiesBetween None (Some b) (over_least (or_split o b))
    by None h = let q = before-least ps f.part h in absurd (not-same ps n q)
    by (Some qs) h =
        let l = before-leads ps qs f.part h in
        lies-any None (Some b) qs (before-part ps qs h) (λ r. tt) (λ r. subst (Before (qs ++ r)) f.whole (l.on r []))

mid-digits : (low ms : List ℕ) → IsMid low ms → list_all is_digit ms ≡ true
mid-digits low ms m = m.digits

-- a part, and a midpoint above the fraction
split-above : (a : List ℕ) (high : Option (List ℕ)) → Pieces a (integer_part a) (fraction a) → ((r : List ℕ) → IsBelow high (integer_part a ++ r)) → LiesBetween (Some a) high (over_least (split_part a None))
split-above a high f below =
    let m = above-mid (fraction a) f.digits in
    lies-split (Some a) high (integer_part a) (midpoint_above (fraction a)) f.part m.digits m.ends
    (subst (λ l. Before l (integer_part a ++ midpoint_above (fraction a))) f.whole (before-after (integer_part a) (fraction a) (midpoint_above (fraction a)) m.above))
    (below (midpoint_above (fraction a)))

above-pieces : (a : List ℕ) → Pieces a (integer_part a) (fraction a) → LiesBetween (Some a) None (over_least (or_split (part_after (integer_part a)) a))
above-pieces a f = by (part_after (integer_part a)) refl
  where
    by : (o : Option (List ℕ)) → part_after (integer_part a) ≡ o → LiesBetween (Some a) None (over_least (or_split o a))
    by None h = split-above a None f (λ r. tt)
    by (Some qs) h =
        let l = after-leads (integer_part a) qs f.part h in
        lies-any (Some a) None qs (after-part (integer_part a) qs h) (λ r. subst (λ z. Before z (qs ++ r)) f.whole (l.on (fraction a) r)) (λ r. tt)

-- a part and the midpoint of two fractions
mid-pieces : (low : Option (List ℕ)) (b ps fs ls : List ℕ) → Pieces b ps fs → list_all is_digit ls ≡ true → Before ls fs → ((ms : List ℕ) → Before ls ms → IsAbove low (ps ++ ms)) → LiesBetween low (Some b) (over_least (ps ++ midpoint_between ls fs))
mid-pieces low b ps fs ls f d h above =
    let m = mid-between ls fs d f.digits (f.ends (longer fs h)) h in
    let w = m.within in
    lies-split low (Some b) ps (midpoint_between ls fs) f.part w.digits w.ends
    (above (midpoint_between ls fs) w.above)
    (subst (Before (ps ++ midpoint_between ls fs)) f.whole (before-after ps (midpoint_between ls fs) fs m.below))
  where
    longer : (fs : List ℕ) → Before ls fs → 0 < length fs
    longer [] h = absurd (before-nothing ls h)
    longer (x ∷ xs) h = omega arith

-- integer parts that differ
parts-lead : (ps qs : List ℕ) → IsPart ps → IsPart qs → (ps ≡ qs) ⊎ ((Leads ps qs) ⊎ (Leads qs ps))
parts-lead [] qs p q = absurd p
parts-lead (x ∷ xs) [] p q = absurd q
parts-lead (x ∷ xs) (y ∷ ys) p q = elim (cases_order x y) as (λ _. (x ∷ xs ≡ y ∷ ys) ⊎ ((Leads (x ∷ xs) (y ∷ ys)) ⊎ (Leads (y ∷ ys) (x ∷ xs)))) [
  | inl e ↦ let l = ap integer_part_len e in lead-cases (x ∷ xs) (y ∷ ys) (omega (arith, l, p.1, q.1))
  | inr o ↦ elim o as (λ _. (x ∷ xs ≡ y ∷ ys) ⊎ ((Leads (x ∷ xs) (y ∷ ys)) ⊎ (Leads (y ∷ ys) (x ∷ xs)))) [
    | inl a ↦ inr (inl (leads-head x y xs ys a))
    | inr b ↦ inr (inr (leads-head y x ys xs b))
  ]
]

pub apart-leads : (a b ps qs fs gs : List ℕ) → Pieces a ps fs → Pieces b qs gs → ps ≢ qs → Before a b → Leads ps qs
apart-leads a b ps qs fs gs f g n h = elim (parts-lead ps qs f.part g.part) as (λ _. Leads ps qs) [
  | inl e ↦ absurd (n e)
  | inr o ↦ elim o as (λ _. Leads ps qs) [
    | inl l ↦ l
    | inr l ↦ absurd (not-before-back a b h (subst (Before b) f.whole (subst (λ z. Before z (ps ++ fs)) g.whole (l.on gs fs))))
  ]
]

least-first : (ps : List ℕ) → IsPart ps → Leads ps least_part → ⊥
least-first [] p l = absurd p
least-first (x ∷ xs) p l = elim (before-cases x 65 (xs ++ []) (drop 1 least_part ++ []) (l.on [] [])) as (λ _. ⊥) [
  | inl m ↦ let g = head-low x p.0 in omega (arith, g, m)
  | inr q ↦
      let k : integer_part_len x ≡ 27 = ap integer_part_len q.0 in
      zeros-first xs (drop 1 least_part) p.2 zeros (subst (λ z. Before z (drop 1 least_part)) (append-nil xs) q.1) (omega (arith, k, p.1))
]
  where
    head-low : (h : ℕ) → is_head h ≡ true → 65 ≤ h
    head-low h e = grind (arith, nat_tests)

-- between two keys
amid-pieces : (a b : List ℕ) → Pieces a (integer_part a) (fraction a) → Pieces b (integer_part b) (fraction b) → Before a b → (o : Option (List ℕ)) → part_after (integer_part a) ≡ o → integer_part a ≢ integer_part b → LiesBetween (Some a) (Some b) (over_least (below_or_split o a b))
amid-pieces a b f g h None e n =
    let l = apart-leads a b (integer_part a) (integer_part b) (fraction a) (fraction b) f g n h in
    split-above a (Some b) f (λ r. subst (Before (integer_part a ++ r)) g.whole (l.on r (fraction b)))
amid-pieces a b f g h (Some qs) e n =
    let l = apart-leads a b (integer_part a) (integer_part b) (fraction a) (fraction b) f g n h in
    let m = after-leads (integer_part a) qs f.part e in
    cond_both (is_before qs b) qs (split_part a None) (λ t. LiesBetween (Some a) (Some b) (over_least t))
    (λ t. lies-part (Some a) (Some b) qs (after-part (integer_part a) qs e)
    (other-text _ (λ s. least-first (integer_part a) f.part (subst (Leads (integer_part a)) (is-same qs s) m)))
    (subst (Before a) (append-nil qs) (subst (λ z. Before z (qs ++ [])) f.whole (m.on (fraction a) [])))
    (tested (slice_cmp nat_cmp qs b) t))
    (λ t. split-above a (Some b) f (λ r. subst (Before (integer_part a ++ r)) g.whole (l.on r (fraction b))))
  where
    tested : (o : Ordering) → is_lt o ≡ true → o ≡ Less
    tested Less t = refl
    tested Equal t = absurd (false≢true t)
    tested Greater t = absurd (false≢true t)

same-parts : (ps qs : List ℕ) → is_same ps qs ≡ true → ps ≡ qs
same-parts ps qs h = same_text ps qs (sym h)

other-parts : (ps qs : List ℕ) → is_same ps qs ≡ false → ps ≢ qs
other-parts ps qs h = other_text ps qs (sym h)

-- the key between two ends is a key but for its length, and strictly between them
pub lies-between : (low high : Option (List ℕ)) → IsKeyOrNone low → IsKeyOrNone high → AreApart low high → LiesBetween low high (key_text low high)
lies-between None None k g h = record { sound = record { head = refl; long = omega arith; digits = refl; least = refl; last = refl }; above = tt; below = tt }
lies-between (Some a) None k g h = above-pieces a (pieces-of a k)
lies-between None (Some b) k g h =
    let f = pieces-of b g in
    cond_both (is_same (integer_part b) least_part) (least_part ++ midpoint_between [] (fraction b)) (text_below b (fraction b)) (λ t. LiesBetween None (Some b) (over_least t))
    (λ e. let q = is-same (integer_part b) e in
    subst (λ l. LiesBetween None (Some b) (over_least (l ++ midpoint_between [] (fraction b)))) q
    (mid-pieces None b (integer_part b) (fraction b) [] f refl (some-fraction b (integer_part b) (fraction b) f q) (λ ms _. tt)))
    (λ e. below-pieces b (integer_part b) (fraction b) f e refl refl)
  where
    some-fraction : (b ps fs : List ℕ) → Pieces b ps fs → ps ≡ least_part → Before [] fs
    some-fraction b ps [] f q = absurd (f.other (sym f.whole ∙ append-nil ps ∙ q))
    some-fraction b ps (x ∷ xs) f q = refl
lies-between (Some a) (Some b) k g h =
    let f = pieces-of a k in
    let j = pieces-of b g in
    cond_both (is_same (integer_part a) (integer_part b)) (integer_part a ++ midpoint_between (fraction a) (fraction b)) (below_or_split (part_after (integer_part a)) a b) (λ t. LiesBetween (Some a) (Some b) (over_least t))
    (λ e. let q = same-parts (integer_part a) (integer_part b) e in
    subst (λ l. LiesBetween (Some a) (Some b) (over_least (l ++ midpoint_between (fraction a) (fraction b)))) (sym q)
    (mid-pieces (Some a) b (integer_part b) (fraction b) (fraction a) j f.digits
    (before-rest (integer_part b) (fraction a) (fraction b) (subst (λ l. Before (l ++ fraction a) (integer_part b ++ fraction b)) q (subst (λ z. Before z (integer_part b ++ fraction b)) (sym f.whole) (subst (Before a) (sym j.whole) h))))
    (λ ms u. subst (λ z. Before z (integer_part b ++ ms)) (ap (λ l. l ++ fraction a) (sym q) ∙ f.whole) (before-after (integer_part b) (fraction a) ms u))))
    (λ e. amid-pieces a b f j h (part_after (integer_part a)) refl (other-parts (integer_part a) (integer_part b) e))

-- a defined key is a key, strictly between its ends
in-room : (text key : List ℕ) → in_room text ≡ Ok key → (text ≡ key) × (length key ≤ 128)
in-room text key e = grind (arith, nat_tests, cond_both)

pub between-is-key : (low high : Option (List ℕ)) (key : List ℕ) → IsKeyOrNone low → IsKeyOrNone high → AreApart low high → key_between low high ≡ Ok key → IsKey key × IsAbove low key × IsBelow high key
between-is-key low high key k g apart e =
    let room = in-room (key_text low high) key e in
    let lies = subst (LiesBetween low high) room.0 (lies-between low high k g apart) in
    (sound-key key lies.sound room.1, lies.above, lies.below)
