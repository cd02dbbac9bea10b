-- Changes of a pose, a kind or a mark, and new shapes, that are decided fit.
use Rattle.std.proofs.Common.{◌≡◌, ℕ, zero, suc, ◌≤◌, ◌^◌, ◌==◌, List, Bool, true, false, cond, not, ◌&&◌, Option, Some, None, Result, Ok, Err, refl, sym, ap, ◌∙◌, arith, subst, map, nat_le}
use Rattle.std.proofs.lemmas.Bool.{and_parts, eqb-true}
use Rattle.std.proofs.lemmas.Bool.Decides.{nat_tests}
use Rattle.std.proofs.lemmas.List.Elements.{All-map, All-weaker}
use Rattle.canvas_plane.specs.declared.Pose.{Pose}
use Rattle.canvas_plane.specs.Motion.{reach_of}
use Rattle.canvas_shape.specs.declared.Kind.{Kind}
use Rattle.canvas_shape.specs.declared.Kind.TheVariants.{Group, Frame, Rect, Ellipse, Polygon}
use Rattle.canvas_shape.specs.Inside.{IsSound}
use Rattle.canvas_record.specs.declared.records.Parent.{Parent}
use Rattle.canvas_record.specs.declared.records.Parent.TheVariants.{Page, Shape}
use Rattle.canvas_record.specs.declared.records.Record.{Record}
use Rattle.canvas_record.specs.declared.records.Place.{Place}
use Rattle.canvas_record.specs.declared.edits.Change.{Change}
use Rattle.canvas_record.specs.declared.edits.Change.TheVariants as change
use Rattle.canvas_record.specs.declared.refusals.Refusal.{Refusal}
use Rattle.canvas_record.specs.declared.refusals.Refusal.TheVariants.{NoSuchShape, BadSize, BadPose, BadPolygon, WrongKind}
use Rattle.canvas_record.specs.Contents.{Contents, IsWellFormed, record_of, is_container, reaches_from, reaches_page}
use Rattle.canvas_record.specs.Tree.{IsInLimits}
use Rattle.canvas_record.specs.Effect.{at_id, Fits}
use Rattle.canvas_record.specs.Siblings.{refused_if}
use Rattle.canvas_record.specs.Decision.{has_shape, same_variant, is_another_kind, pose_decision, allowed, reshape_judgement}
use Rattle.canvas_plane.specs.Limits.{is_pose}
use Rattle.canvas_shape.specs.Limits.{has_sides, has_vertices}
use Rattle.canvas_shape.proofs.Limits.{sound-known}
use Rattle.canvas_doc.proofs.tree.Paths.{changed, found-after}
use Rattle.canvas_doc.proofs.tree.Maps.{at-keeps, places-map, grounded-map}
use Rattle.canvas_doc.proofs.fitting.Fit.{some-there, changed-well}
use Rattle.canvas_record.proofs.Accepted.{refused-ok, not-false}
use Rattle.canvas_doc.proofs.tree.Found.{found-has}

-- a change that keeps ids, places and containers
pub kept-well : (d : Contents) → IsWellFormed d → (id : ℕ) (f : Record → Record) → ((r : Record) → (f r).id ≡ r.id) → ((r : Record) → (f r).place ≡ r.place) → ((r : Record) → IsInLimits r → IsInLimits (f r)) → ((r : Record) → is_container (f r).kind ≡ is_container r.kind) → IsWellFormed (record d { records = at_id id f d.records })
kept-well d w id f k p l c =
    let g : Record → Record = λ r. cond (r.id == id) (f r) r in
    changed-well d w id f k l
    (places-map g (λ r. at-keeps (λ s. s.place) id f p r) d.records w.places)
    (grounded-map g (record {
      ids = λ r. at-keeps (λ s. s.id) id f k r;
      kinds = λ r. at-keeps (λ s. is_container s.kind) id f c r;
      parents = λ r. ap (λ (x : Place). x.parent) (at-keeps (λ s. s.place) id f p r);
    }) d.records w.grounded)

pub pose-limits : (pose : Pose) → is_pose pose ≡ true → (pose.quarter ≤ 3) × (reach_of pose ≤ 2 ^ 20)
pose-limits pose h =
    let both = and_parts (nat_le pose.quarter 3) (nat_le (reach_of pose) (2 ^ 20)) h in
    let a : nat_le pose.quarter 3 ≡ true = both.0 in
    let b : nat_le (reach_of pose) (2 ^ 20) ≡ true = both.1 in
    (grind (arith, nat_tests), grind (arith, nat_tests))

pub pose-fits : (d : Contents) → IsWellFormed d → (id : ℕ) (pose : Pose) (c : Change) → pose_decision id pose d.records ≡ Ok c → Fits c d
pose-fits d w id pose c h =
    let rs = d.records in
    let last : Result Change Refusal = Ok (change.Pose id pose) in
    let bad : Result Change Refusal = refused_if (not (is_pose pose)) BadPose last in
    let a = refused-ok (not (has_shape rs id)) NoSuchShape bad c h in
    let b = refused-ok (not (is_pose pose)) BadPose last c a.1 in
    let e : change.Pose id pose ≡ c = cc (b.1) in
    let l = pose-limits pose (not-false (is_pose pose) b.0) in
    subst (λ x. Fits x d) e
    (record {
      named = some-there (record_of id rs) (not-false (has_shape rs id) a.0);
      left = kept-well d w id (λ r. record r { pose = pose }) (λ r. refl) (λ r. refl) (λ r m. record { quarter = l.0; reach = l.1; kind = m.kind; key = m.key }) (λ r. refl);
    })

pub show-fits : (d : Contents) → IsWellFormed d → (id : ℕ) (hidden : Bool) (c : Change) → refused_if (not (has_shape d.records id)) NoSuchShape (Ok (change.Show id hidden)) ≡ Ok c → Fits c d
show-fits d w id hidden c h =
    let last : Result Change Refusal = Ok (change.Show id hidden) in
    let a = refused-ok (not (has_shape d.records id)) NoSuchShape last c h in
    let e : change.Show id hidden ≡ c = cc (a.1) in
    subst (λ x. Fits x d) e
    (record {
      named = some-there (record_of id d.records) (not-false (has_shape d.records id) a.0);
      left = kept-well d w id (λ r. record r { hidden = hidden }) (λ r. refl) (λ r. refl) (λ r m. record { quarter = m.quarter; reach = m.reach; kind = m.kind; key = m.key }) (λ r. refl);
    })

-- the record of the id, if there is one, stays a container or a leaf
abbrev pub StaysContainer : ℕ → (Record → Record) → List Record → Type 0
StaysContainer id f rs = (r : Record) → record_of id rs ≡ Some r → is_container (f r).kind ≡ is_container r.kind

stays-cases : (id p : ℕ) (f : Record → Record) (rs : List Record) (r : Record) (b : Bool) → (r.id == id) ≡ b → StaysContainer id f rs → record_of p rs ≡ Some r → is_container (cond b (f r) r).kind ≡ is_container r.kind
stays-cases id p f rs r true e s h =
    let same : p ≡ id = sym (eqb-true r.id p (found-has p rs r h)) ∙ eqb-true r.id id e in
    s r (ap (λ n. record_of n rs) (sym same) ∙ h)
stays-cases id p f rs r false e s h = refl

from-changed : (id p : ℕ) (f : Record → Record) (rs : List Record) (up down : Parent → Bool) → ((q : Parent) → up q ≡ down q) → ((r : Record) → (f r).place ≡ r.place) → StaysContainer id f rs → (o : Option Record) → record_of p rs ≡ o → reaches_from up (changed id f o) ≡ reaches_from down o
from-changed id p f rs up down same k s None e = refl
from-changed id p f rs up down same k s (Some r) e =
    ap (λ b. b && up (cond (r.id == id) (f r) r).place.parent) (stays-cases id p f rs r (r.id == id) refl s e)
    ∙ ap (λ (x : Place). is_container r.kind && up x.parent) (at-keeps (λ t. t.place) id f k r)
    ∙ ap (λ b. is_container r.kind && b) (same r.place.parent)

reaches-stays : (n id : ℕ) (f : Record → Record) → ((r : Record) → (f r).id ≡ r.id) → ((r : Record) → (f r).place ≡ r.place) → (rs : List Record) → StaysContainer id f rs → (q : Parent) → reaches_page n (at_id id f rs) q ≡ reaches_page n rs q
unfolding reaches_page
reaches-stays zero id f i k rs s Page = refl
reaches-stays zero id f i k rs s (Shape p) = refl
reaches-stays (suc n) id f i k rs s Page = refl
reaches-stays (suc n) id f i k rs s (Shape p) =
    ap (reaches_from (λ q. reaches_page n (at_id id f rs) q)) (found-after id p f i rs)
    ∙ from-changed id p f rs (λ q. reaches_page n (at_id id f rs) q) (λ q. reaches_page n rs q) (λ q. reaches-stays n id f i k rs s q) k s (record_of p rs) refl

variant-container : (a b : Kind) → same_variant a b ≡ true → is_container b ≡ is_container a
variant-container Group Group e = refl
variant-container Group (Frame v g paint) e = cc
variant-container Group (Rect v g paint) e = cc
variant-container Group (Ellipse v g paint) e = cc
variant-container Group (Polygon corners paint) e = cc
variant-container (Frame w h fill) Group e = cc
variant-container (Frame w h fill) (Frame v g paint) e = refl
variant-container (Frame w h fill) (Rect v g paint) e = cc
variant-container (Frame w h fill) (Ellipse v g paint) e = cc
variant-container (Frame w h fill) (Polygon corners paint) e = cc
variant-container (Rect w h fill) Group e = cc
variant-container (Rect w h fill) (Frame v g paint) e = cc
variant-container (Rect w h fill) (Rect v g paint) e = refl
variant-container (Rect w h fill) (Ellipse v g paint) e = cc
variant-container (Rect w h fill) (Polygon corners paint) e = cc
variant-container (Ellipse w h fill) Group e = cc
variant-container (Ellipse w h fill) (Frame v g paint) e = cc
variant-container (Ellipse w h fill) (Rect v g paint) e = cc
variant-container (Ellipse w h fill) (Ellipse v g paint) e = refl
variant-container (Ellipse w h fill) (Polygon corners paint) e = cc
variant-container (Polygon points fill) Group e = cc
variant-container (Polygon points fill) (Frame v g paint) e = cc
variant-container (Polygon points fill) (Rect v g paint) e = cc
variant-container (Polygon points fill) (Ellipse v g paint) e = cc
variant-container (Polygon points fill) (Polygon corners paint) e = refl

allowed-ok : (r : Result (Unit {0}) Refusal) (made c : Change) → allowed r made ≡ Ok c → (r ≡ Ok tt) × (made ≡ c)
allowed-ok (Ok u) made c h = (refl, cc)
allowed-ok (Err why) made c h = cc

pub reshape-fits : (d : Contents) → IsWellFormed d → (id : ℕ) (kind : Kind) (c : Change) → allowed (reshape_judgement id kind d.records) (change.Reshape id kind) ≡ Ok c → Fits c d
reshape-fits d w id kind c h =
    let rs = d.records in
    let o = allowed-ok (reshape_judgement id kind rs) (change.Reshape id kind) c h in
    let last : Result (Unit {0}) Refusal = Ok tt in
    let edges : Result (Unit {0}) Refusal = refused_if (not (has_vertices kind)) BadPolygon last in
    let size : Result (Unit {0}) Refusal = refused_if (not (has_sides kind)) BadSize edges in
    let other : Result (Unit {0}) Refusal = refused_if (is_another_kind kind (record_of id rs)) WrongKind size in
    let a = refused-ok (not (has_shape rs id)) NoSuchShape other tt o.0 in
    let b = refused-ok (is_another_kind kind (record_of id rs)) WrongKind size tt a.1 in
    let e = refused-ok (not (has_sides kind)) BadSize edges tt b.1 in
    let k = refused-ok (not (has_vertices kind)) BadPolygon last tt e.1 in
    let f : Record → Record = λ r. record r { kind = kind } in
    let stays : StaysContainer id f rs = λ r m. variant-container r.kind kind (not-false (same_variant r.kind kind) (ap (is_another_kind kind) (sym m) ∙ b.0)) in
    let sound : IsSound kind = sound-known kind (not-false (has_sides kind) e.0) (not-false (has_vertices kind) k.0) in
    let g : Record → Record = λ r. cond (r.id == id) (f r) r in
    subst (λ x. Fits x d) o.1
    (record {
      named = some-there (record_of id rs) (not-false (has_shape rs id) a.0);
      left = changed-well d w id f (λ r. refl) (λ r m. record { quarter = m.quarter; reach = m.reach; kind = sound; key = m.key })
          (places-map g (λ r. at-keeps (λ s. s.place) id f (λ s. refl) r) rs w.places)
          (All-map (λ (r : Record). reaches_page 31 (map g rs) r.place.parent ≡ true) g rs
          (All-weaker (λ (r : Record). reaches_page 31 rs r.place.parent ≡ true) (λ (r : Record). reaches_page 31 (map g rs) (g r).place.parent ≡ true)
          (λ r m. ap (λ (x : Place). reaches_page 31 (map g rs) x.parent) (at-keeps (λ s. s.place) id f (λ s. refl) r) ∙ reaches-stays 31 id f (λ s. refl) (λ s. refl) rs stays r.place.parent ∙ m) rs w.grounded));
    })
