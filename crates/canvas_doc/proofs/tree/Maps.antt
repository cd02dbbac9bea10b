-- What stays well formed where each record is changed by itself.
use Rattle.std.proofs.Common.{◌≡◌, ◌≢◌, ℕ, zero, suc, ◌<◌, ◌≤◌, ◌==◌, List, [], ◌∷◌, Bool, true, false, cond, ◌&&◌, Option, Some, None, refl, sym, ap, ◌∙◌, arith, inl, inr, subst, map, All}
use Rattle.std.specs.List.{AllByRecursion, list_all}
use Rattle.std.proofs.lemmas.Bool.{cases_Bool, and_parts, eqb-true}
use Rattle.std.proofs.lemmas.List.Elements.{All-map, All-weaker, All-cons}
use Rattle.canvas_record.specs.declared.records.Parent.{Parent}
use Rattle.canvas_record.specs.declared.records.Parent.TheVariants.{Page, Shape}
use Rattle.canvas_record.specs.declared.records.Record.{Record}
use Rattle.canvas_record.specs.declared.records.Place.{Place}
use Rattle.canvas_record.specs.Children.{same_parent}
use Rattle.canvas_record.specs.Contents.{record_of, is_container, reaches_from, reaches_page, AreRising}
use Rattle.canvas_record.specs.Tree.{HavePlaces, IsElsewhere}
use Rattle.canvas_record.specs.Effect.{at_id}
use Rattle.canvas_doc.proofs.siblings.Free.{IsFree}
use Rattle.canvas_doc.proofs.tree.Parents.{same_parent-sym}

-- what a change at an id keeps of each record
pub at-keeps : {T : Type 0} (part : Record → T) (id : ℕ) (f : Record → Record) → ((r : Record) → part (f r) ≡ part r) → (r : Record) → part (cond (r.id == id) (f r) r) ≡ part r
at-keeps part id f k r = elim (r.id == id) as (λ b. part (cond b (f r) r) ≡ part r) [ true ↦ k r | false ↦ refl ]

above-map : (n : ℕ) (g : Record → Record) → ((r : Record) → (g r).id ≡ r.id) → (rs : List Record) → AllByRecursion (λ (s : Record). n < s.id) rs → AllByRecursion (λ (s : Record). n < s.id) (map g rs)
above-map n g k [] a = tt
above-map n g k (r ∷ rs) a = (rw (k r) a.0, above-map n g k rs a.1)

pub rising-map : (g : Record → Record) → ((r : Record) → (g r).id ≡ r.id) → (rs : List Record) → AreRising rs → AreRising (map g rs)
rising-map g k [] a = tt
rising-map g k (r ∷ rs) a = (subst (λ n. AllByRecursion (λ (s : Record). n < s.id) (map g rs)) (sym (k r)) (above-map r.id g k rs a.0), rising-map g k rs a.1)

pub ids-map : (n : ℕ) (g : Record → Record) → ((r : Record) → (g r).id ≡ r.id) → (rs : List Record) → All (λ (r : Record). (1 ≤ r.id) × (r.id < n)) rs → All (λ (r : Record). (1 ≤ r.id) × (r.id < n)) (map g rs)
ids-map n g k rs a =
    All-map (λ (r : Record). (1 ≤ r.id) × (r.id < n)) g rs
    (All-weaker (λ (r : Record). (1 ≤ r.id) × (r.id < n)) (λ (r : Record). (1 ≤ (g r).id) × ((g r).id < n)) (λ r h. rw (k r) h) rs a)

pub all-map : (P : Record → Type 0) (g : Record → Record) → ((r : Record) → P r → P (g r)) → (rs : List Record) → All P rs → All P (map g rs)
all-map P g k rs a = All-map P g rs (All-weaker P (λ r. P (g r)) k rs a)

elsewhere-map : (r : Record) (g : Record → Record) → ((s : Record) → (g s).place ≡ s.place) → (rs : List Record) → AllByRecursion (IsElsewhere r) rs → AllByRecursion (IsElsewhere r) (map g rs)
elsewhere-map r g k [] a = tt
elsewhere-map r g k (s ∷ rs) a = (rw (k s) a.0, elsewhere-map r g k rs a.1)

pub places-map : (g : Record → Record) → ((r : Record) → (g r).place ≡ r.place) → (rs : List Record) → HavePlaces rs → HavePlaces (map g rs)
places-map g k [] a = tt
places-map g k (r ∷ rs) a =
    (subst (λ (p : Place). AllByRecursion (λ (s : Record). same_parent s.place.parent p.parent ≡ true → s.place.index ≢ p.index) (map g rs)) (sym (k r)) (elsewhere-map r g k rs a.0), places-map g k rs a.1)

-- the record that is there after each was changed
abbrev pub mapped : (Record → Record) → Option Record → Option Record
mapped g None = None
mapped g (Some r) = Some (g r)

mapped-cases : (g : Record → Record) (r : Record) (o : Option Record) (b : Bool) → cond b (Some (g r)) (mapped g o) ≡ mapped g (cond b (Some r) o)
mapped-cases g r o true = refl
mapped-cases g r o false = refl

pub found-map : (at : ℕ) (g : Record → Record) → ((r : Record) → (g r).id ≡ r.id) → (rs : List Record) → record_of at (map g rs) ≡ mapped g (record_of at rs)
found-map at g k [] = refl
found-map at g k (r ∷ rs) =
    ap (λ n. cond (n == at) (Some (g r)) (record_of at (map g rs))) (k r)
    ∙ ap (λ o. cond (r.id == at) (Some (g r)) o) (found-map at g k rs)
    ∙ mapped-cases g r (record_of at rs) (r.id == at)

-- the tests along a path read ids, kinds and parents
pub record KeepsPaths (g : Record → Record) : Type 0 where
  pub ids : (r : Record) → (g r).id ≡ r.id
  pub kinds : (r : Record) → is_container (g r).kind ≡ is_container r.kind
  pub parents : (r : Record) → (g r).place.parent ≡ r.place.parent

from-mapped : (g : Record → Record) → KeepsPaths g → (up down : Parent → Bool) → ((q : Parent) → up q ≡ down q) → (o : Option Record) → reaches_from up (mapped g o) ≡ reaches_from down o
from-mapped g k up down same None = refl
from-mapped g k up down same (Some r) = ap (λ b. b && up (g r).place.parent) (k.kinds r) ∙ ap (λ q. is_container r.kind && up q) (k.parents r) ∙ ap (λ b. is_container r.kind && b) (same r.place.parent)

pub reaches-map : (n : ℕ) (g : Record → Record) → KeepsPaths g → (rs : List Record) (q : Parent) → reaches_page n (map g rs) q ≡ reaches_page n rs q
unfolding reaches_page
reaches-map zero g k rs Page = refl
reaches-map zero g k rs (Shape p) = refl
reaches-map (suc n) g k rs Page = refl
reaches-map (suc n) g k rs (Shape p) =
    ap (reaches_from (λ q. reaches_page n (map g rs) q)) (found-map p g k.ids rs)
    ∙ from-mapped g k (λ q. reaches_page n (map g rs) q) (λ q. reaches_page n rs q) (λ q. reaches-map n g k rs q) (record_of p rs)

-- each record's parent reaches the page
abbrev pub AreGrounded : List Record → Type 0
AreGrounded rs = All (λ (r : Record). reaches_page 31 rs r.place.parent ≡ true) rs

pub grounded-map : (g : Record → Record) → KeepsPaths g → (rs : List Record) → AreGrounded rs → AreGrounded (map g rs)
grounded-map g k rs a =
    All-map (λ (r : Record). reaches_page 31 (map g rs) r.place.parent ≡ true) g rs
    (All-weaker (λ (r : Record). reaches_page 31 rs r.place.parent ≡ true) (λ (r : Record). reaches_page 31 (map g rs) (g r).place.parent ≡ true)
    (λ r h. ap (reaches_page 31 (map g rs)) (k.parents r) ∙ reaches-map 31 g k rs r.place.parent ∙ h) rs a)

pub all-from_test : (t : Record → Bool) (rs : List Record) → list_all t rs ≡ true → All (λ r. t r ≡ true) rs
all-from_test t [] h = λ k d l. absurd (omega arith)
all-from_test t (r ∷ rs) h =
    let both = and_parts (t r) (list_all t rs) h in
    All-cons (λ x. t x ≡ true) r rs both.0 (all-from_test t rs both.1)

-- a shape at a place that is free
eqb-above : (id n m : ℕ) → n ≡ id → n < m → (m == id) ≡ false
eqb-above id n m e h = elim (cases_Bool (m == id)) [ inl t ↦ absurd (let f : m ≡ id = eqb-true m id t in omega arith) | inr f ↦ f ]

new-elsewhere : (id : ℕ) (pl : Place) (r : Record) (rs : List Record) → r.id ≡ id → AllByRecursion (λ (s : Record). r.id < s.id) rs → AllByRecursion (IsFree id pl.parent pl.index) rs → AllByRecursion (IsElsewhere (record r { place = pl })) (at_id id (λ s. record s { place = pl }) rs)
new-elsewhere id pl r [] e a f = tt
new-elsewhere id pl r (s ∷ rs) e a f =
    let other : (s.id == id) ≡ false = eqb-above id r.id s.id e a.0 in
    (rw other (f.0 other), new-elsewhere id pl r rs e a.1 f.1)

old-elsewhere : (id : ℕ) (pl : Place) (r : Record) (rs : List Record) → (r.id == id) ≡ false → IsFree id pl.parent pl.index r → AllByRecursion (IsElsewhere r) rs → AllByRecursion (IsElsewhere r) (at_id id (λ s. record s { place = pl }) rs)
old-elsewhere id pl r [] e f a = tt
old-elsewhere id pl r (s ∷ rs) e f a = elim (cases_Bool (s.id == id)) [
  | inl t ↦ rw t ((λ k i. f e (same_parent-sym pl.parent r.place.parent k) (sym i)), old-elsewhere id pl r rs e f a.1)
  | inr n ↦ rw n (a.0, old-elsewhere id pl r rs e f a.1)
]

pub places-moved : (id : ℕ) (pl : Place) (rs : List Record) → AreRising rs → AllByRecursion (IsFree id pl.parent pl.index) rs → HavePlaces rs → HavePlaces (at_id id (λ s. record s { place = pl }) rs)
places-moved id pl [] a f h = tt
places-moved id pl (r ∷ rs) a f h = elim (cases_Bool (r.id == id)) [
  | inl t ↦ rw t (new-elsewhere id pl r rs (eqb-true r.id id t) a.0 f.1, places-moved id pl rs a.1 f.1 h.1)
  | inr n ↦ rw n (old-elsewhere id pl r rs n f.0 h.0, places-moved id pl rs a.1 f.1 h.1)
]
