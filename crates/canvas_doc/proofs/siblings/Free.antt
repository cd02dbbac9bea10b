-- The index of a spot is none of the siblings'.
use Rattle.std.proofs.Common.{◌≡◌, ◌≢◌, ℕ, ◌==◌, List, [], ◌∷◌, Bool, true, false, cond, not, ◌&&◌, Option, Some, None, Result, Ok, Err, refl, sym, ap, ◌∙◌, filter, inl, inr, subst}
use Rattle.std.specs.List.{AllByRecursion}
use Rattle.std.specs.Ordering.{is_lt}
use Rattle.std.specs.Cmp.Lexicographic.{other_text}
use Rattle.std.proofs.lemmas.Bool.{cases_Bool, true≢false}
use Rattle.canvas_key.specs.Order.{is_before, IsAbove, IsBelow, Before}
use Rattle.canvas_key.specs.Text.{IsKey, IsKeyOrNone, is_same}
use Rattle.canvas_key.specs.Between.{key_between}
use Rattle.canvas_key.specs.declared.KeyFault.{KeyFault}
use Rattle.canvas_key.proofs.Laws.{between-is-key}
use Rattle.canvas_record.specs.declared.records.Parent.{Parent}
use Rattle.canvas_record.specs.declared.records.Record.{Record}
use Rattle.canvas_record.specs.declared.edits.Spot.{Spot}
use Rattle.canvas_record.specs.declared.edits.Spot.TheVariants.{Back, Front, Over, At}
use Rattle.canvas_record.specs.declared.refusals.Refusal.TheVariants.{IndexTaken}
use Rattle.canvas_record.specs.Children.{is_child, same_parent}
use Rattle.canvas_record.specs.Contents.{record_of}
use Rattle.canvas_record.specs.Siblings.{refused_if, is_sibling, siblings, lesser, greater, is_above, least_above, greatest_index, is_taken, with_room, index_over, index_at}
use Rattle.canvas_doc.proofs.siblings.Fronts.{before-trans, upto-trans, before-differs}
use Rattle.canvas_doc.proofs.siblings.Spotted.{least-apart}
use Rattle.canvas_doc.proofs.lists.Tests.{or-cond}

-- no record of the list has the index
abbrev pub Avoids : List ℕ → List Record → Type 0
Avoids key l = AllByRecursion (λ (s : Record). s.place.index ≢ key) l

-- each index is a key
abbrev pub HaveKeys : List Record → Type 0
HaveKeys l = AllByRecursion (λ (s : Record). IsKey s.place.index) l

after-differs : (a b : List ℕ) → is_before a b ≡ true → b ≢ a
after-differs a b h e = before-differs a b h (sym e)

-- before one that is not above
before-upto : (key s a : List ℕ) → is_before key s ≡ true → is_before a s ≡ false → is_before key a ≡ true
before-upto key s a h n = elim (cases_Bool (is_before key a)) [ inl t ↦ t | inr f ↦ absurd (true≢false (sym h ∙ upto-trans s a key n f)) ]

-- above one that is not below
pub after-upto : (key s a : List ℕ) → is_before s key ≡ true → is_before s a ≡ false → is_before a key ≡ true
after-upto key s a h n = elim (cases_Bool (is_before a key)) [ inl t ↦ t | inr f ↦ absurd (true≢false (sym h ∙ upto-trans key a s f n)) ]

room-ok : (r : Result (List ℕ) KeyFault) (key : List ℕ) → with_room r ≡ Ok key → r ≡ Ok key
room-ok (Ok k) key h = let e : k ≡ key = cc in ap (λ x. Ok x) e
room-ok (Err fault) key h = cc

tested : (a b : List ℕ) → Before a b → is_before a b ≡ true
tested a b h = ap is_lt h

-- a key below the least index above a bound
abbrev IsUnder : Option (List ℕ) → List ℕ → Type 0
IsUnder None key = Unit {0}
IsUnder (Some other) key = is_before key other ≡ true

under : (o : Option (List ℕ)) (key : List ℕ) → IsBelow o key → IsUnder o key
under None key h = tt
under (Some other) key h = tested key other h

under-parts : (o : Option (List ℕ)) (s key : List ℕ) → is_before key (lesser o s) ≡ true → (is_before key s ≡ true) × IsUnder o key
under-parts None s key h = (h, tt)
under-parts (Some other) s key h = elim (cases_Bool (is_before s other)) [
  | inl t ↦ (let k : is_before key s ≡ true = rw t at h in (k, before-trans key s other k t))
  | inr f ↦ (let k : is_before key other ≡ true = rw f at h in (before-upto key other s k f, k))
]

under-step : (o : Option (List ℕ)) (s key : List ℕ) (b : Bool) → IsUnder (cond b (Some (lesser o s)) o) key → (b ≡ true → is_before key s ≡ true) × IsUnder o key
under-step o s key true h = let p = under-parts o s key h in ((λ _. p.0), p.1)
under-step o s key false h = ((λ e. absurd (true≢false (sym e))), h)

-- a key above a bound and below the least index above it
between-avoids : (bound : Option (List ℕ)) (key : List ℕ) (l : List Record) → ((s : List ℕ) → is_above bound s ≡ false → s ≢ key) → IsUnder (least_above bound l) key → Avoids key l
between-avoids bound key [] low h = tt
between-avoids bound key (s ∷ rest) low h =
    let p = under-step (least_above bound rest) s.place.index key (is_above bound s.place.index) h in (
      elim (cases_Bool (is_above bound s.place.index)) [ inl t ↦ after-differs key s.place.index (p.0 t) | inr f ↦ low s.place.index f ],
      between-avoids bound key rest low p.1,
    )

not-above : (bound key s : List ℕ) → is_before bound key ≡ true → is_before bound s ≡ false → s ≢ key
not-above bound key s h f e = true≢false (sym h ∙ ap (is_before bound) (sym e) ∙ f)

-- a key above the greatest index
abbrev IsOver : Option (List ℕ) → List ℕ → Type 0
IsOver None key = Unit {0}
IsOver (Some other) key = is_before other key ≡ true

over : (o : Option (List ℕ)) (key : List ℕ) → IsAbove o key → IsOver o key
over None key h = tt
over (Some other) key h = tested other key h

over-parts : (o : Option (List ℕ)) (s key : List ℕ) → is_before (greater o s) key ≡ true → (is_before s key ≡ true) × IsOver o key
over-parts None s key h = (h, tt)
over-parts (Some other) s key h = elim (cases_Bool (is_before other s)) [
  | inl t ↦ (let k : is_before s key ≡ true = rw t at h in (k, before-trans other s key t k))
  | inr f ↦ (let k : is_before other key ≡ true = rw f at h in (after-upto key other s k f, k))
]

front-avoids : (key : List ℕ) (l : List Record) → IsOver (greatest_index l) key → Avoids key l
front-avoids key [] h = tt
front-avoids key (s ∷ rest) h =
    let p = over-parts (greatest_index rest) s.place.index key h in
    (before-differs s.place.index key p.0, front-avoids key rest p.1)

lesser-key : (o : Option (List ℕ)) (key : List ℕ) → IsKeyOrNone o → IsKey key → IsKey (lesser o key)
lesser-key None key h k = k
lesser-key (Some other) key h k = elim (is_before key other) as (λ b. IsKey (cond b key other)) [ true ↦ k | false ↦ h ]

least-step : (o : Option (List ℕ)) (key : List ℕ) (b : Bool) → IsKeyOrNone o → IsKey key → IsKeyOrNone (cond b (Some (lesser o key)) o)
least-step o key true h k = lesser-key o key h k
least-step o key false h k = h

least-key : (bound : Option (List ℕ)) (l : List Record) → HaveKeys l → IsKeyOrNone (least_above bound l)
least-key bound [] h = tt
least-key bound (s ∷ rest) h = least-step (least_above bound rest) s.place.index (is_above bound s.place.index) (least-key bound rest h.1) h.0

greater-key : (o : Option (List ℕ)) (key : List ℕ) → IsKeyOrNone o → IsKey key → IsKey (greater o key)
greater-key None key h k = k
greater-key (Some other) key h k = elim (is_before other key) as (λ b. IsKey (cond b key other)) [ true ↦ k | false ↦ h ]

greatest-key : (l : List Record) → HaveKeys l → IsKeyOrNone (greatest_index l)
greatest-key [] h = tt
greatest-key (s ∷ rest) h = greater-key (greatest_index rest) s.place.index (greatest-key rest h.1) h.0

taken-cases : (key : List ℕ) (s : Record) (rest : List Record) (b : Bool) → is_same s.place.index key ≡ b → cond b true (is_taken key rest) ≡ false → (is_taken key rest ≡ false → Avoids key rest) → Avoids key (s ∷ rest)
taken-cases key s rest true e h ih = cc
taken-cases key s rest false e h ih = (other_text s.place.index key (sym e), ih h)

pub taken-avoids : (key : List ℕ) (l : List Record) → is_taken key l ≡ false → Avoids key l
taken-avoids key [] h = tt
taken-avoids key (s ∷ rest) h = taken-cases key s rest (is_same s.place.index key) refl (sym (or-cond (is_same s.place.index key) (is_taken key rest)) ∙ h) (λ k. taken-avoids key rest k)

at-cases : (k key : List ℕ) (l : List Record) (b : Bool) → is_taken k l ≡ b → refused_if b IndexTaken (Ok k) ≡ Ok key → Avoids key l
at-cases k key l true e h = cc
at-cases k key l false e h = let same : k ≡ key = cc in subst (λ x. Avoids x l) same (taken-avoids k l e)

found-key : (id : ℕ) (l : List Record) (s : Record) → HaveKeys l → record_of id l ≡ Some s → IsKey s.place.index
found-key id [] s h e = cc
found-key id (x ∷ rest) s h e = elim (cases_Bool (x.id == id)) [
  | inl t ↦ (let f : Some x ≡ Some s = rw t at e in let same : x ≡ s = cc in subst (λ (y : Record). IsKey y.place.index) same h.0)
  | inr n ↦ (let f : record_of id rest ≡ Some s = rw n at e in found-key id rest s h.1 f)
]

over-avoids : (id : ℕ) (key : List ℕ) (l : List Record) (o : Option Record) → HaveKeys l → record_of id l ≡ o → index_over o l ≡ Ok key → Avoids key l
over-avoids id key l None k e h = cc
over-avoids id key l (Some s) k e h =
    let low = s.place.index in
    let high = least_above (Some low) l in
    let apart = between-is-key (Some low) high key (found-key id l s k e) (least-key (Some low) l k) (least-apart (Some low) l) (room-ok (key_between (Some low) high) key h) in
    between-avoids (Some low) key l (λ t f. not-above low key t (tested low key apart.1) f) (under high key apart.2)

-- the index of a spot is none of the siblings'
pub spot-avoids : (spot : Spot) (key : List ℕ) (l : List Record) → HaveKeys l → index_at spot l ≡ Ok key → Avoids key l
spot-avoids Back key l k h =
    let high = least_above None l in
    let apart = between-is-key None high key tt (least-key None l k) (least-apart None l) (room-ok (key_between None high) key h) in
    between-avoids None key l (λ t f. absurd (true≢false f)) (under high key apart.2)
spot-avoids Front key l k h =
    let low = greatest_index l in
    let apart = between-is-key low None key (greatest-key l k) tt tt (room-ok (key_between low None) key h) in
    front-avoids key l (over low key apart.1)
spot-avoids (Over id) key l k h = over-avoids id key l (record_of id l) k refl h
spot-avoids (At k) key l m h = at-cases k key l (is_taken k l) refl h

all-if : (t : Record → Bool) (P : Record → Type 0) (l : List Record) → AllByRecursion P (filter t l) → AllByRecursion (λ r. t r ≡ true → P r) l
all-if t P [] a = tt
all-if t P (r ∷ rs) a = elim (cases_Bool (t r)) [
  | inl e ↦ let b : AllByRecursion P (r ∷ filter t rs) = rw e at a in ((λ _. b.0), all-if t P rs b.1)
  | inr e ↦ let b : AllByRecursion P (filter t rs) = rw e at a in ((λ k. absurd (true≢false (sym k ∙ e))), all-if t P rs b)
]

-- no other child of p has the index
abbrev pub IsFree : ℕ → Parent → List ℕ → Record → Type 0
IsFree own p key r = (r.id == own) ≡ false → same_parent r.place.parent p ≡ true → r.place.index ≢ key

both : (a b : Bool) → a ≡ true → b ≡ false → (a && not b) ≡ true
both a b h k = rw (h, k) refl

free-all : (own : ℕ) (p : Parent) (key : List ℕ) (rs : List Record) → AllByRecursion (λ r. is_sibling own p r ≡ true → r.place.index ≢ key) rs → AllByRecursion (IsFree own p key) rs
free-all own p key [] a = tt
free-all own p key (r ∷ rs) a = ((λ h k. a.0 (both (is_child p r) (r.id == own) k h)), free-all own p key rs a.1)

-- keys of all records are keys of siblings
keys-filter : (t : Record → Bool) (rs : List Record) → HaveKeys rs → HaveKeys (filter t rs)
keys-filter t [] h = tt
keys-filter t (r ∷ rs) h = elim (cases_Bool (t r)) [ inl e ↦ rw e (h.0, keys-filter t rs h.1) | inr e ↦ rw e (keys-filter t rs h.1) ]

-- an index that is decided is free
pub spot-free : (spot : Spot) (own : ℕ) (p : Parent) (key : List ℕ) (rs : List Record) → HaveKeys rs → index_at spot (siblings own p rs) ≡ Ok key → AllByRecursion (IsFree own p key) rs
spot-free spot own p key rs k h =
    free-all own p key rs (all-if (is_sibling own p) (λ r. r.place.index ≢ key) rs (spot-avoids spot key (siblings own p rs) (keys-filter (is_sibling own p) rs k) h))

-- an index that no sibling has is free
pub taken-free : (own : ℕ) (p : Parent) (key : List ℕ) (rs : List Record) → is_taken key (siblings own p rs) ≡ false → AllByRecursion (IsFree own p key) rs
taken-free own p key rs h =
    free-all own p key rs (all-if (is_sibling own p) (λ r. r.place.index ≢ key) rs (taken-avoids key (siblings own p rs) h))
