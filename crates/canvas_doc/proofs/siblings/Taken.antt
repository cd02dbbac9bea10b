-- Whether a sibling has an index: the record at the position of that place tells.
use Rattle.std.proofs.Common.{◌≡◌, ℕ, zero, suc, List, [], ◌∷◌, ◌++◌, Bool, true, false, ◌&&◌, ◌||◌, Some, None, refl, sym, ap, ◌∙◌, subst, inl, inr, take, drop, get_or, All}
use Rattle.std.specs.List.{list_any, slice_get}
use Rattle.std.specs.List.Sorted.{IsStrictlySortedBy}
use Rattle.std.specs.Ordering.{is_lt}
use Rattle.std.specs.declared.cmp.Ordering.TheVariants.{Less}
use Rattle.std.specs.Cmp.Lexicographic.{same_text}
use Rattle.std.proofs.lemmas.Bool.{cases_Bool, true≢false, and_parts}
use Rattle.std.proofs.lemmas.Cmp.{tied_itself}
use Rattle.std.proofs.lemmas.List.{take-append-drop}
use Rattle.std.proofs.lemmas.List.Elements.{All-head, All-tail, All-from_recursion}
use Rattle.canvas_key.specs.Text.{is_same}
use Rattle.canvas_record.specs.declared.records.Place.{Place}
use Rattle.canvas_record.specs.declared.records.Record.{Record}
use Rattle.canvas_doc.specs.PlaceOrder.{by_place, comes_first, IsInPlaceOrder, IsPlaceOf}
use Rattle.canvas_record.specs.Siblings.{is_sibling, siblings, is_taken}
use Rattle.canvas_doc.proofs.places.ByPlace.{by_place-total}
use Rattle.canvas_doc.proofs.siblings.Neighbours.{sibling-parent}
use Rattle.canvas_doc.proofs.lists.SameMembers.{same-members, filter-members}
use Rattle.canvas_doc.proofs.siblings.Spotted.{any-filter}
use Rattle.canvas_doc.proofs.lists.Tests.{or-false}

-- a sibling at a place
abbrev pub takes : ℕ → Place → Record → Bool
takes own place r = is_sibling own place.parent r && is_same r.place.index place.index

or-turn : (a b c : Bool) → (a || (b || c)) ≡ (b || (a || c))
or-turn true true c = refl
or-turn true false c = refl
or-turn false true c = refl
or-turn false false c = refl

or-twice : (a b : Bool) → (a || (a || b)) ≡ (a || b)
or-twice true b = refl
or-twice false b = refl

-- siblings are looked for in the order
pub taken-listed : (own : ℕ) (place : Place) (order rs : List Record) → IsInPlaceOrder order rs → list_any (takes own place) order ≡ is_taken place.index (siblings own place.parent rs)
taken-listed own place order rs w =
    let t : Record → Bool = λ r. is_same r.place.index place.index in
    let q : Record → Bool = is_sibling own place.parent in
    sym (any-filter t q order)
    ∙ same-members (list_any t) (λ r b. t r || b) (λ r l. refl) (λ r s b. or-turn (t r) (t s) b) (λ r b. or-twice (t r) b)
    (siblings own place.parent order) (siblings own place.parent rs) (filter-members q order rs w.listed) (filter-members q rs order w.complete)

place-is : (own : ℕ) (place : Place) (r : Record) → takes own place r ≡ true → r.place ≡ place
place-is own place r h =
    let sibling : is_sibling own place.parent r ≡ true = (and_parts (is_sibling own place.parent r) (is_same r.place.index place.index) h).0 in
    let same : is_same r.place.index place.index ≡ true = (and_parts (is_sibling own place.parent r) (is_same r.place.index place.index) h).1 in
    let parents : r.place.parent ≡ place.parent = sibling-parent own place.parent r sibling in
    let indexes : r.place.index ≡ place.index = same_text r.place.index place.index (sym same) in
    λ k. record { parent = parents k; index = indexes k }

not_taken : (own : ℕ) (place : Place) (r : Record) → is_lt (by_place r.place place) ≡ true → takes own place r ≡ false
not_taken own place r h = elim (cases_Bool (takes own place r)) [
  | inl t ↦ absurd (true≢false (sym h ∙ ap (λ q. is_lt (by_place q place)) (place-is own place r t) ∙ ap is_lt (tied_itself by_place-total place)))
  | inr f ↦ f
]

not_taken-later : (own : ℕ) (place : Place) (r s : Record) → is_lt (by_place r.place place) ≡ false → comes_first r s ≡ Less → takes own place s ≡ false
not_taken-later own place r s h l = elim (cases_Bool (takes own place s)) [
  | inl t ↦ absurd (true≢false (sym (ap is_lt l) ∙ ap (λ q. is_lt (by_place r.place q)) (place-is own place s t) ∙ h))
  | inr f ↦ f
]

any-none : (t : Record → Bool) (l : List Record) → All (λ r. t r ≡ false) l → list_any t l ≡ false
any-none t [] a = refl
any-none t (x ∷ l) a =
    let n : t x ≡ false = All-head (λ r. t r ≡ false) x l a in
    rw n (any-none t l (All-tail (λ r. t r ≡ false) x l a))

any-behind : (t : Record → Bool) (xs ys : List Record) → All (λ r. t r ≡ false) xs → list_any t (xs ++ ys) ≡ list_any t ys
any-behind t [] ys a = refl
any-behind t (x ∷ xs) ys a =
    let n : t x ≡ false = All-head (λ r. t r ≡ false) x xs a in
    rw n (any-behind t xs ys (All-tail (λ r. t r ≡ false) x xs a))

any-first : (t : Record → Bool) (x : Record) (l : List Record) → All (λ r. t r ≡ false) l → list_any t (x ∷ l) ≡ t x
any-first t x l a = ap (λ b. t x || b) (any-none t l a) ∙ or-false (t x)

sorted-drop : (n : ℕ) (l : List Record) → IsStrictlySortedBy comes_first l → IsStrictlySortedBy comes_first (drop n l)
unfolding IsStrictlySortedBy
sorted-drop zero l w = w
sorted-drop (suc n) [] w = tt
sorted-drop (suc n) (x ∷ l) w = sorted-drop n l w.1

sorted-later : (r : Record) (l : List Record) → IsStrictlySortedBy comes_first (r ∷ l) → All (λ s. comes_first r s ≡ Less) l
unfolding IsStrictlySortedBy
sorted-later r l w = All-from_recursion (λ s. comes_first r s ≡ Less) l w.0

rest-none : (l : List Record) (i : ℕ) → slice_get l i ≡ None → drop i l ≡ []
rest-none [] zero h = refl
rest-none [] (suc i) h = refl
rest-none (x ∷ l) zero h = cc
rest-none (x ∷ l) (suc i) h = rest-none l i h

rest-some : (l : List Record) (i : ℕ) (r : Record) → slice_get l i ≡ Some r → drop i l ≡ r ∷ drop (suc i) l
rest-some [] i r h = cc
rest-some (x ∷ l) zero r h = cc
rest-some (x ∷ l) (suc i) r h = rest-some l i r h

behind-place : (own : ℕ) (place : Place) (order : List Record) (at : ℕ) → IsPlaceOf place order at → list_any (takes own place) order ≡ list_any (takes own place) (drop at order)
behind-place own place order at w =
    ap (list_any (takes own place)) (sym (take-append-drop at order))
    ∙ any-behind (takes own place) (take at order) (drop at order) (λ k d l. not_taken own place (get_or (take at order) k d) (w.before k d l))

-- no record stands at the position
pub taken-nowhere : (own : ℕ) (place : Place) (order : List Record) (at : ℕ) → IsPlaceOf place order at → slice_get order at ≡ None → list_any (takes own place) order ≡ false
taken-nowhere own place order at w h = behind-place own place order at w ∙ ap (list_any (takes own place)) (rest-none order at h)

first-tells : (own : ℕ) (place : Place) (r : Record) (l : List Record) → IsStrictlySortedBy comes_first (r ∷ l) → All (λ s. is_lt (by_place s.place place) ≡ false) (r ∷ l) → list_any (takes own place) (r ∷ l) ≡ takes own place r
first-tells own place r l w a =
    let here : is_lt (by_place r.place place) ≡ false = All-head (λ s. is_lt (by_place s.place place) ≡ false) r l a in
    let later : All (λ s. comes_first r s ≡ Less) l = sorted-later r l w in
    any-first (takes own place) r l (λ k d i. not_taken-later own place r (get_or l k d) here (later k d i))

-- the record at the position tells
pub taken-here : (own : ℕ) (place : Place) (order : List Record) (at : ℕ) (r : Record) → IsStrictlySortedBy comes_first order → IsPlaceOf place order at → slice_get order at ≡ Some r → list_any (takes own place) order ≡ takes own place r
taken-here own place order at r w is h =
    let rest : drop at order ≡ r ∷ drop (suc at) order = rest-some order at r h in
    behind-place own place order at is
    ∙ ap (list_any (takes own place)) rest
    ∙ first-tells own place r (drop (suc at) order)
    (subst (IsStrictlySortedBy comes_first) rest (sorted-drop at order w))
    (subst (All (λ s. is_lt (by_place s.place place) ≡ false)) rest is.behind)
