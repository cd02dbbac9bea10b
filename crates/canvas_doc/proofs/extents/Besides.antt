-- A change leaves the records besides the changed shape and all below it as they were.
use Rattle.std.proofs.Common.{◌≡◌, ℕ, zero, suc, ◌<◌, ◌≤◌, ◌==◌, List, [], ◌∷◌, ◌++◌, Bool, true, false, cond, not, ◌||◌, Option, Some, None, refl, sym, ap, ◌∙◌, arith, inl, inr, All, filter}
use Rattle.std.proofs.lemmas.Bool.{cases_Bool, eq-eqb, or_from}
use Rattle.std.proofs.lemmas.List.{append-nil}
use Rattle.std.proofs.lemmas.List.Elements.{All-head, All-tail, All-weaker, filter-append, filter_passes}
use Rattle.canvas_plane.specs.declared.Pose.{Pose}
use Rattle.canvas_shape.specs.declared.Kind.{Kind}
use Rattle.canvas_record.specs.declared.edits.Change.TheVariants as change
use Rattle.canvas_record.specs.declared.records.Parent.{Parent}
use Rattle.canvas_record.specs.declared.records.Parent.TheVariants.{Page, Shape}
use Rattle.canvas_record.specs.declared.records.Place.{Place}
use Rattle.canvas_record.specs.declared.records.Record.{Record}
use Rattle.canvas_record.specs.Contents.{Contents, IsWellFormed, record_of, reaches_page}
use Rattle.canvas_record.specs.Effect.{at_id, effect_of, Fits, is_below, is_below_from, is_in_subtree}
use Rattle.canvas_doc.proofs.fitting.Fit.{found-all}
use Rattle.canvas_doc.proofs.tree.Found.{other-id, found-push}
use Rattle.canvas_doc.proofs.tree.Paths.{below-page, changed, found-after}
use Rattle.canvas_doc.proofs.extents.Untouched.{others}
use Rattle.canvas_doc.proofs.lists.Tests.{all-both}
use Rattle.canvas_doc.proofs.tree.Parents.{from-some, below-from}

-- no record has the id
abbrev IsAbsent : ℕ → List Record → Type 0
IsAbsent id rs = All (λ (r : Record). (r.id == id) ≡ false) rs

none-of : (a b : Bool) → not (a || b) ≡ true → a ≡ false
none-of true b h = cc
none-of false b h = refl

-- nothing is below an id that no record has
below-absent : (n id : ℕ) (rs : List Record) (q : Parent) → IsAbsent id rs → is_below n id rs q ≡ false
unfolding is_below
below-absent zero id rs Page a = refl
below-absent zero id rs (Shape p) a = refl
below-absent (suc n) id rs Page a = refl
below-absent (suc n) id rs (Shape p) a =
    below-from id (λ q. is_below n id rs q) (record_of p rs)
    (λ r e. or_from (r.id == id) (is_below n id rs r.place.parent) (found-all (λ (s : Record). (s.id == id) ≡ false) p rs r a e) (below-absent n id rs r.place.parent a))

all-kept : (t : Record → Bool) (rs : List Record) → All (λ (r : Record). t r ≡ true) rs → filter t rs ≡ rs
all-kept t [] a = refl
all-kept t (r ∷ rs) a =
    let here : t r ≡ true = All-head (λ (s : Record). t s ≡ true) r rs a in
    rw here (ap (λ l. r ∷ l) (all-kept t rs (All-tail (λ (s : Record). t s ≡ true) r rs a)))

-- of an id that no record has, nothing is left out
others-absent : (id : ℕ) (rs : List Record) → IsAbsent id rs → others id rs ≡ rs
others-absent id rs a =
    all-kept (λ r. not (is_in_subtree id rs r)) rs
    (All-weaker (λ (r : Record). (r.id == id) ≡ false) (λ (r : Record). not (is_in_subtree id rs r) ≡ true)
    (λ r h. ap not (or_from (r.id == id) (is_below 32 id rs r.place.parent) h (below-absent 32 id rs r.place.parent a))) rs a)

-- what is left has not the id
others-lack : (id : ℕ) (rs : List Record) → IsAbsent id (others id rs)
others-lack id rs =
    All-weaker (λ (r : Record). not (is_in_subtree id rs r) ≡ true) (λ (r : Record). (r.id == id) ≡ false)
    (λ r h. none-of (r.id == id) (is_below 32 id rs r.place.parent) h) (others id rs) (filter_passes (λ r. not (is_in_subtree id rs r)) rs)

pub others-twice : (id : ℕ) (rs : List Record) → others id (others id rs) ≡ others id rs
others-twice id rs = others-absent id (others id rs) (others-lack id rs)

found-same : (id : ℕ) (f : Record → Record) (up now : Parent → Bool) (r : Record) (b : Bool) → (r.id == id) ≡ b → ((s : Record) → (f s).id ≡ s.id) → ((q : Parent) → now q ≡ up q) → is_below_from id now (Some (cond b (f r) r)) ≡ is_below_from id up (Some r)
found-same id f up now r true e k same = ap (λ n. (n == id) || now (f r).place.parent) (k r) ∙ ap (λ b. b || now (f r).place.parent) e ∙ sym (ap (λ b. b || up r.place.parent) e)
found-same id f up now r false e k same = ap (λ b. (r.id == id) || b) (same r.place.parent)

from-changed : (id : ℕ) (f : Record → Record) (up now : Parent → Bool) (o : Option Record) → ((s : Record) → (f s).id ≡ s.id) → ((q : Parent) → now q ≡ up q) → is_below_from id now (changed id f o) ≡ is_below_from id up o
from-changed id f up now None k same = refl
from-changed id f up now (Some r) k same = found-same id f up now r (r.id == id) refl k same

-- what is below a shape stays so when the shape is changed, since following parents stops at it
below-changed : (n id : ℕ) (f : Record → Record) (rs : List Record) (q : Parent) → ((r : Record) → (f r).id ≡ r.id) → is_below n id (at_id id f rs) q ≡ is_below n id rs q
unfolding is_below
below-changed zero id f rs Page k = refl
below-changed zero id f rs (Shape p) k = refl
below-changed (suc n) id f rs Page k = refl
below-changed (suc n) id f rs (Shape p) k =
    ap (is_below_from id (λ q. is_below n id (at_id id f rs) q)) (found-after id p f k rs)
    ∙ from-changed id f (λ q. is_below n id rs q) (λ q. is_below n id (at_id id f rs) q) (record_of p rs) k (λ q. below-changed n id f rs q k)

head-lost : (t : Record → Bool) (r : Record) (rs : List Record) → t r ≡ false → filter t (r ∷ rs) ≡ filter t rs
head-lost t r rs h = rw h refl

head-same : (t u : Record → Bool) (r : Record) (xs ys : List Record) → t r ≡ u r → filter t xs ≡ filter u ys → filter t (r ∷ xs) ≡ filter u (r ∷ ys)
head-same t u r xs ys h e = rw (h, e) refl

-- the shape goes, and the others are not changed
filter-changed : (id : ℕ) (f : Record → Record) (now up : Parent → Bool) (rs : List Record) → ((r : Record) → (f r).id ≡ r.id) → ((q : Parent) → now q ≡ up q) → filter (λ r. not ((r.id == id) || now r.place.parent)) (at_id id f rs) ≡ filter (λ r. not ((r.id == id) || up r.place.parent)) rs
filter-changed id f now up [] k same = refl
filter-changed id f now up (r ∷ rs) k same =
    let t : Record → Bool = λ s. not ((s.id == id) || now s.place.parent) in
    let u : Record → Bool = λ s. not ((s.id == id) || up s.place.parent) in
    let rest : filter t (at_id id f rs) ≡ filter u rs = filter-changed id f now up rs k same in
    elim (cases_Bool (r.id == id)) [
      | inl h ↦ (
          let gone : t (f r) ≡ false = ap (λ n. not ((n == id) || now (f r).place.parent)) (k r) ∙ ap (λ b. not (b || now (f r).place.parent)) h in
          ap (λ b. filter t (cond b (f r) r ∷ at_id id f rs)) h
          ∙ head-lost t (f r) (at_id id f rs) gone ∙ rest ∙ sym (head-lost u r rs (ap (λ b. not (b || up r.place.parent)) h)))
      | inr h ↦
          ap (λ b. filter t (cond b (f r) r ∷ at_id id f rs)) h
          ∙ head-same t u r (at_id id f rs) rs (ap (λ b. not ((r.id == id) || b)) (same r.place.parent)) rest
    ]

-- a change of the shape alone
pub others-changed : (id : ℕ) (f : Record → Record) (rs : List Record) → ((r : Record) → (f r).id ≡ r.id) → others id (at_id id f rs) ≡ others id rs
others-changed id f rs k =
    filter-changed id f (λ q. is_below 32 id (at_id id f rs) q) (λ q. is_below 32 id rs q) rs k (λ q. below-changed 32 id f rs q k)

-- what reaches the page without the new shape is not below it
below-pushed : (k n id : ℕ) (rs : List Record) (r : Record) (q : Parent) → IsAbsent id rs → reaches_page k rs q ≡ true → is_below n id (rs ++ r ∷ []) q ≡ false
unfolding is_below reaches_page
below-pushed zero n id rs r Page a h = below-page n id (rs ++ r ∷ [])
below-pushed zero n id rs r (Shape p) a h = cc
below-pushed (suc k) n id rs r Page a h = below-page n id (rs ++ r ∷ [])
below-pushed (suc k) zero id rs r (Shape p) a h = refl
below-pushed (suc k) (suc n) id rs r (Shape p) a h =
    let s = from-some (λ q. reaches_page k rs q) (record_of p rs) h in
    ap (is_below_from id (λ q. is_below n id (rs ++ r ∷ []) q)) (found-push p rs r s.0 s.1)
    ∙ or_from (s.0.id == id) (is_below n id (rs ++ r ∷ []) s.0.place.parent) (found-all (λ (x : Record). (x.id == id) ≡ false) p rs s.0 a s.1) (below-pushed k n id rs r s.0.place.parent a s.3)

last-lost : (t : Record → Bool) (rs : List Record) (r : Record) → All (λ (s : Record). t s ≡ true) rs → t r ≡ false → filter t (rs ++ r ∷ []) ≡ rs
last-lost t rs r a h =
    filter-append t rs (r ∷ []) ∙ ap (λ l. l ++ filter t (r ∷ [])) (all-kept t rs a) ∙ ap (λ l. rs ++ l) (head-lost t r [] h) ∙ append-nil rs

-- a new shape, under which nothing hangs yet
others-pushed : (id : ℕ) (rs : List Record) (r : Record) → IsAbsent id rs → r.id ≡ id → All (λ (s : Record). reaches_page 31 rs s.place.parent ≡ true) rs → others id (rs ++ r ∷ []) ≡ rs
others-pushed id rs r a e grounded =
    let all : List Record = rs ++ r ∷ [] in
    last-lost (λ s. not (is_in_subtree id all s)) rs r
    (all-both (λ (s : Record). (s.id == id) ≡ false) (λ (s : Record). reaches_page 31 rs s.place.parent ≡ true) (λ (s : Record). not (is_in_subtree id all s) ≡ true)
    (λ s m n. ap not (or_from (s.id == id) (is_below 32 id all s.place.parent) m (below-pushed 31 32 id rs r s.place.parent a n))) rs a grounded)
    (ap (λ b. not (b || is_below 32 id all r.place.parent)) (eq-eqb r.id id e))

-- the next id is above all
next-absent : (d : Contents) → IsWellFormed d → (id : ℕ) → id ≡ d.next → IsAbsent id d.records
next-absent d w id e =
    All-weaker (λ (r : Record). (1 ≤ r.id) × (r.id < d.next)) (λ (r : Record). (r.id == id) ≡ false)
    (λ r m. other-id r.id id (λ h. let under : r.id < d.next = m.1 in omega arith)) d.records w.ids

pub others-same-create : (d : Contents) → IsWellFormed d → (id : ℕ) (kind : Kind) (pose : Pose) (hidden : Bool) (place : Place) → Fits (change.Create id kind pose hidden place) d → others id (effect_of (change.Create id kind pose hidden place) d).records ≡ others id d.records
others-same-create d w id kind pose hidden place fits =
    let new : Record = record { id = id; kind = kind; place = place; pose = pose; hidden = hidden } in
    let absent : IsAbsent id d.records = next-absent d w id fits.named in
    others-pushed id d.records new absent refl w.grounded ∙ sym (others-absent id d.records absent)

pub others-same-move : (d : Contents) → (id : ℕ) (place : Place) → others id (effect_of (change.Move id place) d).records ≡ others id d.records
others-same-move d id place = others-changed id (λ r. record r { place = place }) d.records (λ r. refl)

pub others-same-pose : (d : Contents) → (id : ℕ) (pose : Pose) → others id (effect_of (change.Pose id pose) d).records ≡ others id d.records
others-same-pose d id pose = others-changed id (λ r. record r { pose = pose }) d.records (λ r. refl)

pub others-same-reshape : (d : Contents) → (id : ℕ) (kind : Kind) → others id (effect_of (change.Reshape id kind) d).records ≡ others id d.records
others-same-reshape d id kind = others-changed id (λ r. record r { kind = kind }) d.records (λ r. refl)

pub others-same-show : (d : Contents) → (id : ℕ) (hidden : Bool) → others id (effect_of (change.Show id hidden) d).records ≡ others id d.records
others-same-show d id hidden = others-changed id (λ r. record r { hidden = hidden }) d.records (λ r. refl)

pub others-same-delete : (d : Contents) → (id : ℕ) → others id (effect_of (change.Delete id) d).records ≡ others id d.records
others-same-delete d id = others-twice id d.records
