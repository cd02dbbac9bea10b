-- A change that is decided fits.
use Rattle.std.proofs.Common.{◌≡◌, ℕ, ◌==◌, List, [], ◌∷◌, Bool, true, false, cond, not, Option, Some, None, Result, Ok, refl, sym, ap, ◌∙◌, arith, inl, inr, subst, map, All, IsSome, is_some, rules}
use Rattle.std.proofs.lemmas.Bool.{cases_Bool, and_from}
use Rattle.std.proofs.lemmas.List.{length-map}
use Rattle.std.proofs.lemmas.List.Elements.{All-head, All-tail}
use Rattle.canvas_key.specs.Text.{IsKey}
use Rattle.canvas_record.specs.declared.records.Parent.{Parent}
use Rattle.canvas_record.specs.declared.records.Parent.TheVariants.{Page, Shape}
use Rattle.canvas_record.specs.declared.records.Record.{Record}
use Rattle.canvas_record.specs.declared.records.Place.{Place}
use Rattle.canvas_record.specs.declared.edits.Spot.{Spot}
use Rattle.canvas_record.specs.declared.edits.Change.{Change}
use Rattle.canvas_record.specs.declared.edits.Change.TheVariants as change
use Rattle.canvas_record.specs.declared.refusals.Refusal.{Refusal}
use Rattle.canvas_record.specs.declared.refusals.Refusal.TheVariants.{NoSuchShape, NoSuchParent, NotAContainer, Cycle, TooDeep}
use Rattle.canvas_record.specs.Contents.{Contents, IsWellFormed, record_of, is_container, reaches_page}
use Rattle.canvas_record.specs.Tree.{HavePlaces, IsInLimits}
use Rattle.canvas_record.specs.Effect.{at_id, Fits, HasKey}
use Rattle.canvas_record.specs.Siblings.{refused_if, siblings, index_at}
use Rattle.canvas_record.specs.Decision.{placed, put_under, lies_too_deep, are_grounded, has_shape, has_parent, can_have_children, makes_cycle, move_index}
use Rattle.canvas_record.specs.Depth.{is_above_32}
use Rattle.canvas_record.proofs.Accepted.{refused-ok, placed-ok, not-false}
use Rattle.canvas_doc.proofs.tree.Paths.{reaches-page, reaches-step}
use Rattle.canvas_doc.proofs.tree.DepthAgrees.{deep-agrees}
use Rattle.canvas_doc.proofs.siblings.Free.{HaveKeys, spot-free}
use Rattle.canvas_doc.proofs.tree.Maps.{at-keeps, rising-map, ids-map, all-map, places-moved, KeepsPaths, AreGrounded, grounded-map, all-from_test}
use Rattle.canvas_doc.proofs.tree.Parents.{container-there}

pub some-there : {T : Type 0} (o : Option T) → is_some o ≡ true → IsSome o
some-there None h = cc
some-there (Some x) h = search rules

-- the index alone is set
pub set-index : ℕ → List ℕ → Record → Record
set-index id key r = cond (r.id == id) (record r { place = record r.place { index = key } }) r

pub set-index-keeps : (id : ℕ) (key : List ℕ) → KeepsPaths (set-index id key)
unfolding set-index
set-index-keeps id key = record {
  ids = λ r. at-keeps (λ s. s.id) id (λ s. record s { place = record s.place { index = key } }) (λ s. refl) r;
  kinds = λ r. at-keeps (λ s. is_container s.kind) id (λ s. record s { place = record s.place { index = key } }) (λ s. refl) r;
  parents = λ r. at-keeps (λ s. s.place.parent) id (λ s. record s { place = record s.place { index = key } }) (λ s. refl) r;
}

set-index-one : (id : ℕ) (p : Parent) (key : List ℕ) (r : Record) (b : Bool) → (r.id == id) ≡ b → set-index id key (cond b (record r { place = record r.place { parent = p } }) r) ≡ cond b (record r { place = record { parent = p; index = key } }) r
unfolding set-index
set-index-one id p key r true e = rw e refl
set-index-one id p key r false e = rw e refl

pub set-index-all : (id : ℕ) (p : Parent) (key : List ℕ) (rs : List Record) → map (set-index id key) (put_under id p rs) ≡ at_id id (λ r. record r { place = record { parent = p; index = key } }) rs
set-index-all id p key [] = refl
set-index-all id p key (r ∷ rs) =
    ap (λ x. x ∷ map (set-index id key) (put_under id p rs)) (set-index-one id p key r (r.id == id) refl)
    ∙ ap (λ xs. cond (r.id == id) (record r { place = record { parent = p; index = key } }) r ∷ xs) (set-index-all id p key rs)

pub moved-grounded : (id : ℕ) (p : Parent) (key : List ℕ) (rs : List Record) → lies_too_deep rs id p ≡ false → AreGrounded (at_id id (λ r. record r { place = record { parent = p; index = key } }) rs)
unfolding lies_too_deep
moved-grounded id p key rs h =
    let all : are_grounded (put_under id p rs) (put_under id p rs) ≡ true = not-false (are_grounded (put_under id p rs) (put_under id p rs)) h in
    subst AreGrounded (set-index-all id p key rs)
    (grounded-map (set-index id key) (set-index-keeps id key) (put_under id p rs)
    (all-from_test (λ r. reaches_page 31 (put_under id p rs) r.place.parent) (put_under id p rs) all))

-- the document after a change at an id that keeps ids and limits
pub changed-well : (d : Contents) → IsWellFormed d → (id : ℕ) (f : Record → Record) → ((r : Record) → (f r).id ≡ r.id) → ((r : Record) → IsInLimits r → IsInLimits (f r)) → HavePlaces (at_id id f d.records) → AreGrounded (at_id id f d.records) → IsWellFormed (record d { records = at_id id f d.records })
changed-well d w id f k l places grounded =
    let g : Record → Record = λ r. cond (r.id == id) (f r) r in
    let ids : (r : Record) → (g r).id ≡ r.id = λ r. at-keeps (λ s. s.id) id f k r in
    record {
      next_above = w.next_above;
      next_below = w.next_below;
      few = rw (length-map d.records g) w.few;
      rising = rising-map g ids d.records w.rising;
      ids = ids-map d.next g ids d.records w.ids;
      limits = all-map IsInLimits g (λ r h. elim (r.id == id) as (λ b. IsInLimits (cond b (f r) r)) [ true ↦ l r h | false ↦ h ]) d.records w.limits;
      places = places;
      grounded = grounded;
    }

pub found-all : (P : Record → Type 0) (q : ℕ) (rs : List Record) (r : Record) → All P rs → record_of q rs ≡ Some r → P r
found-all P q [] r a h = cc
found-all P q (x ∷ rs) r a h = elim (cases_Bool (x.id == q)) [
  | inl t ↦ (let g : Some x ≡ Some r = rw t at h in let same : x ≡ r = cc in subst P same (All-head P x rs a))
  | inr f ↦ (let g : record_of q rs ≡ Some r = rw f at h in found-all P q rs r (All-tail P x rs a) g)
]

-- what can have children reaches the page
pub parent-reaches : (d : Contents) → IsWellFormed d → (p : Parent) → can_have_children d.records p ≡ true → reaches_page 32 d.records p ≡ true
parent-reaches d w Page h = reaches-page 32 d.records
parent-reaches d w (Shape q) h =
    let s = container-there (record_of q d.records) h in
    let up : reaches_page 31 d.records s.0.place.parent ≡ true = found-all (λ (r : Record). reaches_page 31 d.records r.place.parent ≡ true) q d.records s.0 w.grounded s.1 in
    reaches-step 32 q d.records (Some s.0) (omega arith) (sym s.1) ∙ and_from (is_container s.0.kind) (reaches_page 31 d.records s.0.place.parent) s.2 up

-- the index of each record is a key
pub have-keys : (rs : List Record) → All IsInLimits rs → HaveKeys rs
have-keys [] a = tt
have-keys (r ∷ rs) a = (let l : IsInLimits r = All-head IsInLimits r rs a in l.key, have-keys rs (All-tail IsInLimits r rs a))

pub move-fits : (d : Contents) → IsWellFormed d → (id : ℕ) (p : Parent) (spot : Spot) (c : Change) → HasKey c → placed p (move_index id p spot d.records) (λ place. change.Move id place) ≡ Ok c → Fits c d
move-fits d w id p spot c keyed h =
    let rs = d.records in
    let k = placed-ok p (move_index id p spot rs) (λ place. change.Move id place) c h in
    let last : Result (List ℕ) Refusal = index_at spot (siblings id p rs) in
    let deep : Result (List ℕ) Refusal = refused_if (is_above_32 rs id p) TooDeep last in
    let cycle : Result (List ℕ) Refusal = refused_if (makes_cycle rs id p) Cycle deep in
    let leaf : Result (List ℕ) Refusal = refused_if (not (can_have_children rs p)) NotAContainer cycle in
    let parent : Result (List ℕ) Refusal = refused_if (not (has_parent rs p)) NoSuchParent leaf in
    let a = refused-ok (not (has_shape rs id)) NoSuchShape parent k.0 k.1 in
    let b = refused-ok (not (has_parent rs p)) NoSuchParent leaf k.0 a.1 in
    let e = refused-ok (not (can_have_children rs p)) NotAContainer cycle k.0 b.1 in
    let f = refused-ok (makes_cycle rs id p) Cycle deep k.0 e.1 in
    let g = refused-ok (is_above_32 rs id p) TooDeep last k.0 f.1 in
    let reached : reaches_page 32 rs p ≡ true = parent-reaches d w p (not-false (can_have_children rs p) e.0) in
    let shallow : lies_too_deep rs id p ≡ false = deep-agrees d w id p reached f.0 ∙ g.0 in
    let pl : Place = record { parent = p; index = k.0 } in
    let key : IsKey k.0 = subst HasKey (sym k.2) keyed in
    let named : IsSome (record_of id rs) = some-there (record_of id rs) (not-false (has_shape rs id) a.0) in
    subst (λ x. Fits x d) k.2
    (record {
      named = named;
      left = changed-well d w id (λ r. record r { place = pl }) (λ r. refl) (λ r l. record { quarter = l.quarter; reach = l.reach; kind = l.kind; key = key })
          (places-moved id pl rs w.rising (spot-free spot id p k.0 rs (have-keys rs w.limits) g.1) w.places)
          (moved-grounded id p k.0 rs shallow);
    })
