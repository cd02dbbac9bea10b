-- The damage of each change, from the extents of its shape before and after, told of the document before it.
use Rattle.std.proofs.Common.{◌≡◌, ◌≤◌, ◌^◌, ℕ, List, Bool, false, cond, Option, Some, None, IsSome, refl, sym, ap, subst, ◌∙◌}
use Rattle.std.proofs.lemmas.Bool.{eqb-true}
use Rattle.std.proofs.lemmas.Option.{same_Some}
use Rattle.canvas_plane.specs.declared.PageBox.{PageBox}
use Rattle.canvas_plane.specs.declared.Point.{Point}
use Rattle.canvas_plane.specs.declared.Pose.{Pose}
use Rattle.canvas_plane.specs.Motion.{carry, reach_of}
use Rattle.canvas_plane.specs.Page.{empty_box, hull_of}
use Rattle.canvas_shape.specs.Inside.{IsSound}
use Rattle.canvas_shape.specs.declared.Kind.{Kind}
use Rattle.canvas_record.specs.declared.edits.Change.TheVariants as change
use Rattle.canvas_record.specs.declared.records.Parent.{Parent}
use Rattle.canvas_record.specs.declared.records.Parent.TheVariants.{Shape}
use Rattle.canvas_record.specs.declared.records.Place.{Place}
use Rattle.canvas_record.specs.declared.records.Record.{Record}
use Rattle.canvas_record.specs.Contents.{Contents, IsWellFormed, is_container, record_of}
use Rattle.canvas_record.specs.Damage.{damage_of, extent_among, extent_at, extent_before_and_after, extent_on_page, own_extent, to_page}
use Rattle.canvas_record.specs.Effect.{at_id, effect_of, Fits}
use Rattle.canvas_record.specs.Tree.{IsInLimits}
use Rattle.canvas_doc.proofs.extents.AfterChange.{changed-extent, create-before, create-extent, delete-after, leaf-childless, with_changed}
use Rattle.canvas_doc.proofs.tree.Childless.{IsChildless}
use Rattle.canvas_doc.proofs.extents.Extents.{hull-first, hull-is, hull-same, hull-second, IsHull}
use Rattle.canvas_doc.proofs.fitting.Fit.{found-all}
use Rattle.canvas_doc.proofs.tree.Paths.{changed, found-after}
use Rattle.canvas_doc.proofs.tree.Found.{found-has}

there : (o : Option Record) → IsSome o → (r : Record) × (o ≡ Some r)
there None h = cc
there (Some r) h = (r, refl)

-- an extent is a hull
empty-hull : IsHull empty_box
empty-hull = hull-is empty_box empty_box

on_page-hull : (rs : List Record) (o : Option Record) → IsHull (extent_on_page rs o)
on_page-hull rs None = empty-hull
on_page-hull rs (Some r) =
    let page : Point → Point = λ q. to_page 31 rs r.place.parent (carry r.pose q) in
    hull-is (own_extent r.kind page) (extent_among 31 rs (Shape r.id) page)

at-hull : (id : ℕ) (rs : List Record) → IsHull (extent_at id rs)
at-hull id rs = on_page-hull rs (record_of id rs)

-- another place under the same parent moves nothing
pub same-place : (id : ℕ) (rs : List Record) (r : Record) (place : Place) → record_of id rs ≡ Some r → r.place.parent ≡ place.parent → extent_at id rs ≡ hull_of (extent_at id rs) (extent_on_page rs (Some (record r { place = place })))
same-place id rs r place e h =
    let page : Parent → Point → Point = λ p q. to_page 31 rs p (carry r.pose q) in
    sym (hull-same (extent_at id rs) (at-hull id rs))
    ∙ ap (λ o. hull_of (extent_at id rs) (extent_on_page rs o)) e
    ∙ ap (λ p. hull_of (extent_at id rs) (hull_of (own_extent r.kind (page p)) (extent_among 31 rs (Shape r.id) (page p)))) h

-- the extent after a change of one record, as that of the changed record in the document before
changed-on_page : (d : Contents) → IsWellFormed d → (id : ℕ) (f : Record → Record) → ((r : Record) → (f r).id ≡ r.id) → IsWellFormed (with_changed id f d) → (r : Record) → record_of id d.records ≡ Some r
    → extent_at id (at_id id f d.records) ≡ extent_on_page d.records (Some (f r))
changed-on_page d w id f k after r e =
    let s : Record = f r in
    let page : Point → Point = λ q. to_page 31 d.records s.place.parent (carry s.pose q) in
    let same : id ≡ s.id = sym (k r ∙ eqb-true r.id id (found-has id d.records r e)) in
    changed-extent d w id f k after r e ∙ ap (λ i. hull_of (own_extent s.kind page) (extent_among 31 d.records (Shape i) page)) same

-- the box is that round the extents of a shape as it stands and as it is changed, both in one document
abbrev pub IsRoundBoth : ℕ → (Record → Record) → List Record → PageBox → Type 0
IsRoundBoth id f rs box = (r : Record) → record_of id rs ≡ Some r → box ≡ hull_of (extent_at id rs) (extent_on_page rs (Some (f r)))

-- the hull of both extents, by the record that was found
pub round-both : (d now : Contents) → d ≡ now → (id : ℕ) (f : Record → Record) (shape : Record) → Some shape ≡ record_of id d.records → (before after box : PageBox) → before ≡ extent_on_page now.records (Some shape) → after ≡ extent_on_page now.records (Some (f shape)) → box ≡ hull_of before after
    → IsRoundBoth id f now.records box
round-both d now e id f shape found before after box b a h = λ r there.
    let rs : List Record = now.records in
    let here : Some shape ≡ record_of id rs = found ∙ ap (λ (d : Contents). record_of id d.records) e in
    let same : shape ≡ r = same_Some shape r (here ∙ there) in
    h ∙ ap (λ x. hull_of x after) (b ∙ ap (extent_on_page rs) here) ∙ ap (hull_of (extent_at id rs)) (a ∙ ap (λ (s : Record). extent_on_page rs (Some (f s))) same)

-- the damage of a change of one record
changed-damage : (d : Contents) → IsWellFormed d → (id : ℕ) (f : Record → Record) → ((r : Record) → (f r).id ≡ r.id) → IsWellFormed (with_changed id f d) → IsSome (record_of id d.records) → (box : PageBox) → IsRoundBoth id f d.records box
    → box ≡ extent_before_and_after id d.records (at_id id f d.records)
changed-damage d w id f k after named box h =
    let s = there (record_of id d.records) named in
    h s.0 s.1 ∙ ap (hull_of (extent_at id d.records)) (sym (changed-on_page d w id f k after s.0 s.1))

pub move-damage : (id : ℕ) (place : Place) (d : Contents) → IsWellFormed d → Fits (change.Move id place) d → (box : PageBox) → IsRoundBoth id (λ r. record r { place = place }) d.records box → box ≡ damage_of (change.Move id place) d
unfolding damage_of
move-damage id place d w fits box h = changed-damage d w id (λ r. record r { place = place }) (λ r. refl) fits.left fits.named box h

pub pose-damage : (id : ℕ) (pose : Pose) (d : Contents) → IsWellFormed d → Fits (change.Pose id pose) d → (box : PageBox) → IsRoundBoth id (λ r. record r { pose = pose }) d.records box → box ≡ damage_of (change.Pose id pose) d
unfolding damage_of
pose-damage id pose d w fits box h = changed-damage d w id (λ r. record r { pose = pose }) (λ r. refl) fits.left fits.named box h

pub reshape-damage : (id : ℕ) (kind : Kind) (d : Contents) → IsWellFormed d → Fits (change.Reshape id kind) d → (box : PageBox) → IsRoundBoth id (λ r. record r { kind = kind }) d.records box → box ≡ damage_of (change.Reshape id kind) d
unfolding damage_of
reshape-damage id kind d w fits box h = changed-damage d w id (λ r. record r { kind = kind }) (λ r. refl) fits.left fits.named box h

-- a mark moves nothing
pub show-damage : (id : ℕ) (hidden : Bool) (d : Contents) → IsWellFormed d → Fits (change.Show id hidden) d → (box : PageBox) → box ≡ extent_at id d.records → box ≡ damage_of (change.Show id hidden) d
unfolding damage_of
show-damage id hidden d w fits box h =
    changed-damage d w id (λ r. record r { hidden = hidden }) (λ r. refl) fits.left fits.named box
    (λ r e. h ∙ sym (hull-same (extent_at id d.records) (at-hull id d.records)) ∙ ap (λ o. hull_of (extent_at id d.records) (extent_on_page d.records o)) e)

pub delete-damage : (id : ℕ) (d : Contents) → IsWellFormed d → (box : PageBox) → box ≡ extent_at id d.records → box ≡ damage_of (change.Delete id) d
unfolding damage_of
delete-damage id d w box h =
    h ∙ sym (hull-first (extent_at id d.records) (at-hull id d.records)) ∙ ap (hull_of (extent_at id d.records)) (sym (delete-after d w id))

pub create-damage : (id : ℕ) (kind : Kind) (pose : Pose) (hidden : Bool) (place : Place) (d : Contents) → IsWellFormed d → Fits (change.Create id kind pose hidden place) d → (box : PageBox) → box ≡ hull_of (own_extent kind (λ q. to_page 31 d.records place.parent (carry pose q))) empty_box
    → box ≡ damage_of (change.Create id kind pose hidden place) d
unfolding damage_of
create-damage id kind pose hidden place d w fits box h =
    let own : PageBox = own_extent kind (λ q. to_page 31 d.records place.parent (carry pose q)) in
    h ∙ sym (hull-second (hull_of own empty_box) (hull-is own empty_box)) ∙ ap (hull_of empty_box) (sym (create-extent d w id kind pose hidden place fits))
    ∙ ap (λ x. hull_of x (extent_at id (effect_of (change.Create id kind pose hidden place) d).records)) (sym (create-before d w id kind pose hidden place fits))

pub respace-damage : (p : Parent) (d : Contents) → empty_box ≡ damage_of (change.Respace p) d
unfolding damage_of
respace-damage p d = refl

-- nothing lies below a leaf that was found
pub leaf-found : (id : ℕ) (d now : Contents) (r : Record) → IsWellFormed d → d ≡ now → Some r ≡ record_of id d.records → is_container r.kind ≡ false → IsChildless r.id now.records
leaf-found id d now r w e found leaf =
    let there : record_of r.id d.records ≡ Some r = ap (λ n. record_of n d.records) (eqb-true r.id id (found-has id d.records r (sym found))) ∙ sym found in
    subst (λ (c : Contents). IsChildless r.id c.records) e (leaf-childless d w r.id r there leaf)

-- what is changed keeps within the limits
changed-limits : (d : Contents) (id : ℕ) (f : Record → Record) → ((r : Record) → (f r).id ≡ r.id) → IsWellFormed (with_changed id f d) → IsSome (record_of id d.records) → (r : Record) × IsInLimits (f r)
changed-limits d id f k after named =
    let s = there (record_of id d.records) named in
    let found : record_of id (at_id id f d.records) ≡ Some (f s.0) =
    found-after id id f k d.records ∙ ap (changed id f) s.1 ∙ ap (λ b. Some (cond b (f s.0) s.0)) (found-has id d.records s.0 s.1) in
    (s.0, found-all IsInLimits id (at_id id f d.records) (f s.0) after.limits found)

pub pose-limits : (id : ℕ) (pose : Pose) (d : Contents) → Fits (change.Pose id pose) d → (pose.quarter ≤ 3) × (reach_of pose ≤ 2 ^ 20)
pose-limits id pose d fits =
    let s = changed-limits d id (λ r. record r { pose = pose }) (λ r. refl) fits.left fits.named in
    (s.1.quarter, s.1.reach)

pub kind-sound : (id : ℕ) (kind : Kind) (d : Contents) → Fits (change.Reshape id kind) d → IsSound kind
kind-sound id kind d fits = (changed-limits d id (λ r. record r { kind = kind }) (λ r. refl) fits.left fits.named).1.kind
