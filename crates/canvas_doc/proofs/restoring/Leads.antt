-- Paths in a list that is judged, step by step, and the first positions of its ids.
use Rattle.std.proofs.Common.{◌≡◌, ◌≢◌, not, ◌||◌, inl, inr, length-append, ℕ, zero, suc, ◌+◌, ◌-◌, ◌<◌, ◌≤◌, ◌==◌, List, [], ◌∷◌, ◌++◌, Bool, true, false, cond, nat_lt, Option, Some, None, refl, sym, ap, ◌∙◌, arith, length, get_or, take}
use Rattle.std.specs.Option.{option_or, option_eq, option_copied}
use Rattle.std.specs.Borrow.{Bor}
use Rattle.std.specs.List.{list_any, position_or_len, slice_get}
use Rattle.std.proofs.lemmas.Bool.{cases_Bool, true≢false, eq-eqb, eqb-true}
use Rattle.std.proofs.lemmas.Bool.Decides.{nat_tests}
use Rattle.std.proofs.lemmas.List.{take_more}
use Rattle.std.proofs.lemmas.List.Sums.{prefix_len-le-length, fails_before_first}
use Rattle.std.proofs.lemmas.Option.{slice_get_past, slice_get-get_or, slice_get_within, get_or_from_slice_get}
use Rattle.std.proofs.lemmas.Grind.{common_steps}
use Rattle.std.proofs.lemmas.List.Folds.{find_at, position_or_len_push}
use Rattle.canvas_record.specs.declared.records.Parent.TheVariants.{Page, Shape}
use Rattle.canvas_record.specs.declared.records.Record.{Record}
use Rattle.canvas_record.specs.Contents.{record_of}
use Rattle.canvas_doc.specs.Listed.{position_of}
use Rattle.canvas_record.specs.Restored.{leads_from, leads_to_page}

pub leads-page : (n : ℕ) (rs : List Record) → leads_to_page n rs Page ≡ true
unfolding leads_to_page
leads-page n rs = elim n as (λ m. leads_to_page m rs Page ≡ true) [ zero ↦ refl | suc m ↦ refl ]

pub leads-nowhere : (n p : ℕ) (rs : List Record) → n ≡ 0 → leads_to_page n rs (Shape p) ≡ false
unfolding leads_to_page
leads-nowhere n p rs h = rw h refl

-- one step up
pub leads-step : (n p : ℕ) (rs : List Record) (o : Option Record) → 0 < n → o ≡ record_of p rs → leads_to_page n rs (Shape p) ≡ leads_from (λ q. leads_to_page (n - 1) rs q) o
unfolding leads_to_page
leads-step zero p rs o h e = absurd (omega arith)
leads-step (suc n) p rs o h e =
    let m : suc n - 1 ≡ n = omega arith in
    rw (m, e) refl

pub ruleset leads_rules = (leads-page, leads-nowhere, leads-step)

-- a position below the length, or none
abbrev first_below : ℕ → ℕ → Option ℕ
first_below n k = cond (nat_lt k n) (Some k) None

below-more : (m n : ℕ) (b c : Bool) → m ≤ n → c ≡ (m == n) → first_below (n + 1) (cond c (n + cond b 0 1) m) ≡ option_or (first_below n m) (cond b (Some n) None)
below-more m n true true h e =
    let same : m ≡ n = eqb-true m n (sym e) in
    let one : nat_lt (n + 0) (n + 1) ≡ true = grind (arith, nat_tests) in
    let two : nat_lt m n ≡ false = grind (arith, nat_tests) in
    let three : n + 0 ≡ n = omega arith in
    rw (one, two, three) refl
below-more m n false true h e =
    let same : m ≡ n = eqb-true m n (sym e) in
    let one : nat_lt (n + 1) (n + 1) ≡ false = grind (arith, nat_tests) in
    let two : nat_lt m n ≡ false = grind (arith, nat_tests) in
    rw (one, two) refl
below-more m n b false h e =
    let other : m ≢ n = λ k. true≢false (sym (eq-eqb m n k) ∙ sym e) in
    let one : nat_lt m (n + 1) ≡ true = grind (arith, nat_tests) in
    let two : nat_lt m n ≡ true = grind (arith, nat_tests) in
    rw (one, two) refl

position_of-push : (id : ℕ) (xs : List Record) (y : Record) → position_of id (xs ++ y ∷ []) ≡ option_or (position_of id xs) (cond (y.id == id) (Some (length xs)) None)
unfolding position_of
position_of-push id xs y =
    let p : Record → Bool = λ r. r.id == id in
    let m : ℕ = position_or_len p xs in
    let bound : m ≤ length xs = prefix_len-le-length (λ x. not (p x)) xs in
    ap (first_below (length (xs ++ y ∷ []))) (position_or_len_push p xs y)
    ∙ ap (λ n. first_below n (cond (m == length xs) (length xs + cond (p y) 0 1) m)) (length-append xs (y ∷ []))
    ∙ below-more m (length xs) (p y) (m == length xs) bound refl

pub position_of-nil : (id : ℕ) → position_of id [] ≡ None
unfolding position_of
position_of-nil id = refl

-- one more element, as at a step of a loop
pub position_of-more : (id : ℕ) (xs : List Record) (i : ℕ) (d : Record) → i < length xs → position_of id (take (i + 1) xs) ≡ option_or (position_of id (take i xs)) (cond ((get_or xs i d).id == id) (Some i) None)
position_of-more id xs i d h =
    let n : length (take i xs) ≡ i = grind (arith, common_steps) in
    ap (position_of id) (take_more xs i d h)
    ∙ position_of-push id (take i xs) (get_or xs i d)
    ∙ ap (λ k. option_or (position_of id (take i xs)) (cond ((get_or xs i d).id == id) (Some k) None)) n

some-below : (n k i : ℕ) → first_below n k ≡ Some i → (k < n) × (k ≡ i)
some-below n k i h = elim (cases_Bool (nat_lt k n)) [
  | inl t ↦ (let e : Some k ≡ Some i = rw t at h in (grind (arith, nat_tests), cc))
  | inr f ↦ (let e : None ≡ Some i = rw f at h in cc)
]

pub none-below : (n k : ℕ) → first_below n k ≡ None → n ≤ k
none-below n k h = elim (cases_Bool (nat_lt k n)) [
  | inl t ↦ (let e : Some k ≡ None = rw t at h in cc)
  | inr f ↦ grind (arith, nat_tests)
]

pub position_of-within : (id : ℕ) (rs : List Record) (i : ℕ) → position_of id rs ≡ Some i → i < length rs
unfolding position_of
position_of-within id rs i h =
    let b = some-below (length rs) (position_or_len (λ (r : Record). r.id == id) rs) i h in
    omega (arith, b.0, b.1)

pub record_of-position : (id : ℕ) (rs : List Record) (i : ℕ) (d : Record) → position_of id rs ≡ Some i → record_of id rs ≡ Some (get_or rs i d)
unfolding position_of
record_of-position id rs i d h =
    let p : Record → Bool = λ r. r.id == id in
    let b = some-below (length rs) (position_or_len p rs) i h in
    find_at p rs ∙ ap (slice_get rs) b.1 ∙ slice_get-get_or rs i d (position_of-within id rs i h)

pub record_of-nowhere : (id : ℕ) (rs : List Record) → position_of id rs ≡ None → record_of id rs ≡ None
unfolding position_of
record_of-nowhere id rs h =
    let p : Record → Bool = λ r. r.id == id in
    find_at p rs ∙ slice_get_past rs (position_or_len p rs) (none-below (length rs) (position_or_len p rs) h)

any-step : (b c : Bool) (m i : ℕ) → c ≡ nat_lt m i → (b || c) ≡ nat_lt (cond (not b) (1 + m) 0) (suc i)
any-step true c m i h = let e : nat_lt 0 (suc i) ≡ true = grind (arith, nat_tests) in sym e
any-step false c m i h = let e : nat_lt (1 + m) (suc i) ≡ nat_lt m i = grind (arith, nat_tests) in h ∙ sym e

-- one of the first i passes exactly where the first that passes is among them
any-before : (p : Record → Bool) (xs : List Record) (i : ℕ) → i ≤ length xs → list_any p (take i xs) ≡ nat_lt (position_or_len p xs) i
any-before p [] i l = let z : i ≡ 0 = omega arith in rw z refl
any-before p (x ∷ xs) zero l = let e : nat_lt (position_or_len p (x ∷ xs)) 0 ≡ false = grind (arith, nat_tests) in sym e
any-before p (x ∷ xs) (suc i) l = any-step (p x) (list_any p (take i xs)) (position_or_len p xs) i (any-before p xs i (omega arith))

first-differs : (n m i : ℕ) → m ≤ i → i < n → not (option_eq (λ a b. a == b) (first_below n m) (Some i)) ≡ nat_lt m i
first-differs n m i h l =
    let one : nat_lt m n ≡ true = grind (arith, nat_tests) in
    rw one (elim (cases_Bool (m == i)) [
      | inl t ↦ (let e : nat_lt m i ≡ false = grind (arith, nat_tests) in rw (t, e) refl)
      | inr f ↦ (let e : nat_lt m i ≡ true = grind (arith, nat_tests) in rw (f, e) refl)
    ])

first-within : (p : Record → Bool) (xs : List Record) (i : ℕ) (d : Record) → p (get_or xs i d) ≡ true → position_or_len p xs ≤ i
first-within p xs i d h = elim (cases_Bool (nat_lt i (position_or_len p xs))) [
  | inl t ↦ (let l : i < position_or_len p xs = grind (arith, nat_tests) in absurd (true≢false (sym h ∙ fails_before_first p xs i d l)))
  | inr f ↦ grind (arith, nat_tests)
]

-- the record at a place is not the first with its id exactly where an earlier one has it
pub position_of-repeats : (rs : List Record) (i : ℕ) (r : Record) → slice_get rs i ≡ Some r → not (option_eq (λ a b. a == b) (position_of r.id rs) (Some i)) ≡ list_any (λ s. s.id == r.id) (take i rs)
unfolding position_of
position_of-repeats rs i r h =
    let p : Record → Bool = λ s. s.id == r.id in
    let l : i < length rs = slice_get_within rs i r h in
    let own : p (get_or rs i r) ≡ true = ap p (get_or_from_slice_get rs i r r h) ∙ eq-eqb r.id r.id refl in
    first-differs (length rs) (position_or_len p rs) i (first-within p rs i r own) l
    ∙ sym (any-before p rs i (omega arith))

-- what a look-up of the first position tells
pub repeats-found : (rs : List Record) (i : ℕ) (r : Record) (o : Option (Bor ℕ)) (b : Bor ℕ) → slice_get rs i ≡ Some r → option_copied o ≡ position_of r.id rs → b.now ≡ i → not (option_eq (λ x y. x.now == y.now) o (Some b)) ≡ list_any (λ s. s.id == r.id) (take i rs)
repeats-found rs i r None b h e k = ap (λ q. not (option_eq (λ a c. a == c) q (Some i))) e ∙ position_of-repeats rs i r h
repeats-found rs i r (Some a) b h e k = ap (λ n. not (a.now == n)) k ∙ ap (λ q. not (option_eq (λ a c. a == c) q (Some i))) e ∙ position_of-repeats rs i r h
