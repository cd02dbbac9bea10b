-- The least and the greatest index, and the index of a spot.
use Rattle.std.proofs.Common.{◌≡◌, ℕ, ◌<◌, ◌==◌, List, [], ◌∷◌, Bool, true, false, cond, ◌&&◌, Option, Some, None, refl, sym, ap, ◌∙◌, arith, filter, inl, inr, subst}
use Rattle.std.specs.List.{AllByRecursion, list_any}
use Rattle.std.specs.Ordering.{nat_cmp}
use Rattle.std.specs.Cmp.Lexicographic.{slice_cmp}
use Rattle.std.proofs.lemmas.Bool.{cases_Bool, true≢false, eqb-true}
use Rattle.canvas_key.specs.Order.{is_before, AreApart, Before}
use Rattle.canvas_record.specs.declared.records.Record.{Record}
use Rattle.canvas_record.specs.Contents.{record_of, AreRising}
use Rattle.canvas_record.specs.Siblings.{lesser, greater, least_above}
use Rattle.canvas_doc.proofs.siblings.Fronts.{before-trans, before-asym, upto-trans, same-key}
use Rattle.canvas_doc.proofs.lists.Tests.{or-cond, less-from_lt}

one-of : (a b : List ℕ) (p q : Bool) → (p ≡ true → q ≡ false) → (p ≡ false → q ≡ false → a ≡ b) → cond p b a ≡ cond q a b
one-of a b true true k m = absurd (true≢false (k refl))
one-of a b true false k m = refl
one-of a b false true k m = refl
one-of a b false false k m = m refl refl

lesser-swap : (a b : List ℕ) → lesser (Some a) b ≡ lesser (Some b) a
lesser-swap a b = one-of a b (is_before b a) (is_before a b) (λ h. before-asym b a h) (λ h k. same-key a b k h)

greater-swap : (a b : List ℕ) → greater (Some a) b ≡ greater (Some b) a
greater-swap a b = one-of a b (is_before a b) (is_before b a) (λ h. before-asym a b h) (λ h k. same-key a b h k)

-- the lesser of three, however it is taken
lesser-three : (a b c : List ℕ) (p q r : Bool) → is_before b a ≡ p → is_before c b ≡ q → is_before c a ≡ r → (p ≡ true → q ≡ true → r ≡ true) → (p ≡ false → q ≡ false → r ≡ false) → lesser (Some (cond p b a)) c ≡ lesser (Some a) (cond q c b)
lesser-three a b c true true r e f g k m = rw (f, g, k refl refl) refl
lesser-three a b c true false r e f g k m = rw (e, f) refl
lesser-three a b c false true r e f g k m = refl
lesser-three a b c false false r e f g k m = rw (e, g, m refl refl) refl

lesser-join : (a b c : List ℕ) → lesser (Some (lesser (Some a) b)) c ≡ lesser (Some a) (lesser (Some b) c)
lesser-join a b c = lesser-three a b c (is_before b a) (is_before c b) (is_before c a) refl refl refl (λ h k. before-trans c b a k h) (λ h k. upto-trans a b c h k)

greater-three : (a b c : List ℕ) (p q r : Bool) → is_before a b ≡ p → is_before b c ≡ q → is_before a c ≡ r → (p ≡ true → q ≡ true → r ≡ true) → (p ≡ false → q ≡ false → r ≡ false) → greater (Some (cond p b a)) c ≡ greater (Some a) (cond q c b)
greater-three a b c true true r e f g k m = rw (f, g, k refl refl) refl
greater-three a b c true false r e f g k m = rw (e, f) refl
greater-three a b c false true r e f g k m = refl
greater-three a b c false false r e f g k m = rw (e, g, m refl refl) refl

greater-join : (a b c : List ℕ) → greater (Some (greater (Some a) b)) c ≡ greater (Some a) (greater (Some b) c)
greater-join a b c = greater-three a b c (is_before a b) (is_before b c) (is_before a c) refl refl refl (λ h k. before-trans a b c h k) (λ h k. upto-trans c b a k h)

lesser-turn : (o : Option (List ℕ)) (a b : List ℕ) → lesser (Some (lesser o a)) b ≡ lesser (Some (lesser o b)) a
lesser-turn None a b = lesser-swap a b
lesser-turn (Some k) a b = lesser-join k a b ∙ ap (lesser (Some k)) (lesser-swap a b) ∙ sym (lesser-join k b a)

pub greater-turn : (o : Option (List ℕ)) (a b : List ℕ) → greater (Some (greater o a)) b ≡ greater (Some (greater o b)) a
greater-turn None a b = greater-swap a b
greater-turn (Some k) a b = greater-join k a b ∙ ap (greater (Some k)) (greater-swap a b) ∙ sym (greater-join k b a)

both-same : (k : List ℕ) (b : Bool) → cond b k k ≡ k
both-same k true = refl
both-same k false = refl

-- a key once more
lesser-twice : (o : Option (List ℕ)) (k : List ℕ) → lesser (Some (lesser o k)) k ≡ lesser o k
lesser-twice None k = both-same k (is_before k k)
lesser-twice (Some a) k = elim (cases_Bool (is_before k a)) [ inl t ↦ rw t (both-same k (is_before k k)) | inr f ↦ rw (f, f) refl ]

pub greater-twice : (o : Option (List ℕ)) (k : List ℕ) → greater (Some (greater o k)) k ≡ greater o k
greater-twice None k = both-same k (is_before k k)
greater-twice (Some a) k = elim (cases_Bool (is_before a k)) [ inl t ↦ rw t (both-same k (is_before k k)) | inr f ↦ rw (f, f) refl ]

-- the least with one more
abbrev pub least_with : Bool → Option (List ℕ) → List ℕ → Option (List ℕ)
least_with counts o key = cond counts (Some (lesser o key)) o

pub least-turn : (o : Option (List ℕ)) (a b : List ℕ) (p q : Bool) → least_with p (least_with q o b) a ≡ least_with q (least_with p o a) b
least-turn o a b true true = ap Some (lesser-turn o b a)
least-turn o a b true false = refl
least-turn o a b false true = refl
least-turn o a b false false = refl

pub least-twice : (o : Option (List ℕ)) (k : List ℕ) (b : Bool) → least_with b (least_with b o k) k ≡ least_with b o k
least-twice o k true = ap Some (lesser-twice o k)
least-twice o k false = refl

pub before-fact : (a b : List ℕ) → is_before a b ≡ true → Before a b
before-fact a b h = less-from_lt (slice_cmp nat_cmp a b) h

-- above a bound
abbrev IsOver : List ℕ → Option (List ℕ) → Type 0
IsOver bound None = Unit {0}
IsOver bound (Some key) = is_before bound key ≡ true

over-lesser : (bound : List ℕ) (o : Option (List ℕ)) (key : List ℕ) → IsOver bound o → is_before bound key ≡ true → is_before bound (lesser o key) ≡ true
over-lesser bound None key h k = k
over-lesser bound (Some other) key h k = elim (is_before key other) as (λ b. is_before bound (cond b key other) ≡ true) [ true ↦ k | false ↦ h ]

over-step : (bound : List ℕ) (o : Option (List ℕ)) (key : List ℕ) (b : Bool) → is_before bound key ≡ b → IsOver bound o → IsOver bound (cond b (Some (lesser o key)) o)
over-step bound o key true e h = over-lesser bound o key h e
over-step bound o key false e h = h

least-over : (bound : List ℕ) (l : List Record) → IsOver bound (least_above (Some bound) l)
least-over bound [] = tt
least-over bound (s ∷ rest) = over-step bound (least_above (Some bound) rest) s.place.index (is_before bound s.place.index) refl (least-over bound rest)

apart-over : (bound : List ℕ) (o : Option (List ℕ)) → IsOver bound o → AreApart (Some bound) o
apart-over bound None h = tt
apart-over bound (Some key) h = before-fact bound key h

apart-none : (o : Option (List ℕ)) → AreApart None o
apart-none None = tt
apart-none (Some key) = tt

-- the least index above a bound is above it
pub least-apart : (bound : Option (List ℕ)) (l : List Record) → AreApart bound (least_above bound l)
least-apart None l = apart-none (least_above None l)
least-apart (Some key) l = apart-over key (least_above (Some key) l) (least-over key l)

any-one : (t : Record → Bool) (r : Record) (xs : List Record) (b c : Bool) → t r ≡ c → list_any t (cond b (r ∷ xs) xs) ≡ cond (b && c) true (list_any t xs)
any-one t r xs true true e = rw e refl
any-one t r xs true false e = rw e refl
any-one t r xs false c e = refl

-- what passes both tests
pub any-filter : (t q : Record → Bool) (rs : List Record) → list_any t (filter q rs) ≡ list_any (λ r. q r && t r) rs
any-filter t q [] = refl
any-filter t q (r ∷ rs) = any-one t r (filter q rs) (q r) (t r) refl ∙ ap (cond (q r && t r) true) (any-filter t q rs) ∙ sym (or-cond (q r && t r) (list_any (λ x. q x && t x) rs))

later-id : (n m : ℕ) → n < m → (m == n) ≡ false
later-id n m h = elim (cases_Bool (m == n)) [ inl t ↦ absurd (let e : m ≡ n = eqb-true m n t in omega arith) | inr f ↦ f ]

found-none-kept : (id : ℕ) (t : Record → Bool) (rs : List Record) → AllByRecursion (λ (s : Record). id < s.id) rs → record_of id (filter t rs) ≡ None
found-none-kept id t [] a = refl
found-none-kept id t (s ∷ rs) a = elim (cases_Bool (t s)) [
  | inl e ↦ (let n : (s.id == id) ≡ false = later-id id s.id a.0 in rw (e, n) (found-none-kept id t rs a.1))
  | inr e ↦ rw e (found-none-kept id t rs a.1)
]

-- a record, if it passes a test
abbrev pub if_passes : (Record → Bool) → Option Record → Option Record
if_passes t None = None
if_passes t (Some r) = cond (t r) (Some r) None

-- an id among records that pass a test
pub found-filter : (id : ℕ) (t : Record → Bool) (rs : List Record) → AreRising rs → record_of id (filter t rs) ≡ if_passes t (record_of id rs)
found-filter id t [] w = refl
found-filter id t (s ∷ rs) w = elim (cases_Bool (t s)) [
  | inl e ↦ elim (cases_Bool (s.id == id)) [
    | inl m ↦ rw (e, m, e) refl
    | inr m ↦ rw (e, m) (found-filter id t rs w.1)
  ]
  | inr e ↦ elim (cases_Bool (s.id == id)) [
    | inl m ↦ (let same : s.id ≡ id = eqb-true s.id id m in
        rw (e, m, e) (found-none-kept id t rs (subst (λ n. AllByRecursion (λ (x : Record). n < x.id) rs) same w.0)))
    | inr m ↦ rw (e, m) (found-filter id t rs w.1)
  ]
]
