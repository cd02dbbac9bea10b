-- A new shape that is decided fits.
use Rattle.std.proofs.Common.{◌≡◌, ℕ, zero, suc, ◌+◌, ◌<◌, ◌≤◌, ◌^◌, ◌==◌, List, [], ◌∷◌, ◌++◌, Bool, true, false, not, Result, Ok, refl, sym, ap, ◌∙◌, arith, inl, inr, subst, All, length, nat_le, nat_lt, length-append}
use Rattle.std.specs.List.{AllByRecursion}
use Rattle.std.proofs.lemmas.Bool.{cases_Bool, eqb-true, and_from}
use Rattle.std.proofs.lemmas.Bool.Decides.{nat_tests}
use Rattle.std.proofs.lemmas.List.Elements.{All-weaker, All-head, All-tail, All-push}
use Rattle.canvas_key.specs.Text.{IsKey}
use Rattle.canvas_plane.specs.declared.Pose.{Pose}
use Rattle.canvas_shape.specs.declared.Kind.{Kind}
use Rattle.canvas_record.specs.declared.records.Parent.{Parent}
use Rattle.canvas_record.specs.declared.records.Parent.TheVariants.{Page, Shape}
use Rattle.canvas_record.specs.declared.records.Record.{Record}
use Rattle.canvas_record.specs.declared.records.Place.{Place}
use Rattle.canvas_record.specs.declared.edits.Spot.{Spot}
use Rattle.canvas_record.specs.declared.edits.Change.{Change}
use Rattle.canvas_record.specs.declared.edits.Change.TheVariants as change
use Rattle.canvas_record.specs.declared.refusals.Refusal.{Refusal}
use Rattle.canvas_record.specs.declared.refusals.Refusal.TheVariants.{NoSuchParent, NotAContainer, TooDeep, TooMany, BadSize, BadPose, BadPolygon, IdsSpent}
use Rattle.canvas_record.specs.Contents.{Contents, IsWellFormed, record_of, is_container, reaches_from, reaches_page, AreRising, most_records}
use Rattle.canvas_record.specs.Tree.{HavePlaces, IsElsewhere, IsInLimits}
use Rattle.canvas_record.specs.Effect.{effect_of, Fits, HasKey}
use Rattle.canvas_record.specs.Siblings.{refused_if, siblings, index_at}
use Rattle.canvas_record.specs.Decision.{placed, has_parent, can_have_children, create_index}
use Rattle.canvas_plane.specs.Limits.{is_pose}
use Rattle.canvas_shape.specs.Limits.{has_sides, has_vertices}
use Rattle.canvas_shape.proofs.Limits.{sound-known}
use Rattle.canvas_doc.proofs.siblings.Free.{IsFree, spot-free}
use Rattle.canvas_doc.proofs.fitting.Fit.{have-keys}
use Rattle.canvas_record.proofs.Accepted.{refused-ok, placed-ok, not-false}
use Rattle.canvas_doc.proofs.fitting.FitMore.{pose-limits}
use Rattle.canvas_doc.proofs.tree.Parents.{same_parent-sym, from-some}
use Rattle.canvas_doc.proofs.tree.Found.{found-push}

above-push : (n : ℕ) (rs : List Record) (r : Record) → AllByRecursion (λ (s : Record). n < s.id) rs → n < r.id → AllByRecursion (λ (s : Record). n < s.id) (rs ++ r ∷ [])
above-push n [] r a h = (h, tt)
above-push n (s ∷ rs) r a h = (a.0, above-push n rs r a.1 h)

rising-push : (rs : List Record) (r : Record) → AreRising rs → All (λ (s : Record). s.id < r.id) rs → AreRising (rs ++ r ∷ [])
rising-push [] r a b = (tt, tt)
rising-push (s ∷ rs) r a b = (above-push s.id rs r a.0 (All-head (λ (s : Record). s.id < r.id) s rs b), rising-push rs r a.1 (All-tail (λ (s : Record). s.id < r.id) s rs b))

elsewhere-push : (s : Record) (rs : List Record) (r : Record) → AllByRecursion (IsElsewhere s) rs → IsElsewhere s r → AllByRecursion (IsElsewhere s) (rs ++ r ∷ [])
elsewhere-push s [] r a h = (h, tt)
elsewhere-push s (t ∷ rs) r a h = (a.0, elsewhere-push s rs r a.1 h)

places-push : (rs : List Record) (r : Record) → HavePlaces rs → All (λ (s : Record). s.id < r.id) rs → AllByRecursion (IsFree r.id r.place.parent r.place.index) rs → HavePlaces (rs ++ r ∷ [])
places-push [] r h b f = (tt, tt)
places-push (s ∷ rs) r h b f =
    let below : s.id < r.id = All-head (λ (s : Record). s.id < r.id) s rs b in
    let other : (s.id == r.id) ≡ false = elim (cases_Bool (s.id == r.id)) [ inl t ↦ absurd (let e : s.id ≡ r.id = eqb-true s.id r.id t in omega arith) | inr n ↦ n ] in (
      elsewhere-push s rs r h.0 (λ k i. f.0 other (same_parent-sym r.place.parent s.place.parent k) (sym i)),
      places-push rs r h.1 (All-tail (λ (s : Record). s.id < r.id) s rs b) f.1,
    )

pub reaches-push : (n : ℕ) (rs : List Record) (r : Record) (q : Parent) → reaches_page n rs q ≡ true → reaches_page n (rs ++ r ∷ []) q ≡ true
unfolding reaches_page
reaches-push zero rs r Page h = refl
reaches-push zero rs r (Shape p) h = cc
reaches-push (suc n) rs r Page h = refl
reaches-push (suc n) rs r (Shape p) h =
    let s = from-some (λ q. reaches_page n rs q) (record_of p rs) h in
    ap (reaches_from (λ q. reaches_page n (rs ++ r ∷ []) q)) (found-push p rs r s.0 s.1)
    ∙ and_from (is_container s.0.kind) (reaches_page n (rs ++ r ∷ []) s.0.place.parent) s.2 (reaches-push n rs r s.0.place.parent s.3)

next-more : (n : ℕ) → (n == 4294967295) ≡ false → n < 2 ^ 32 → n + 1 < 2 ^ 32
next-more n h k = elim (cases_Bool (nat_lt n 4294967295)) [ inl t ↦ grind (arith, nat_tests) | inr f ↦ grind (arith, nat_tests) ]

few-more : (n m : ℕ) → nat_le most_records n ≡ false → m ≡ n + 1 → m ≤ most_records
few-more n m h e = grind (arith, nat_tests)

-- the document with a new shape
pub created-well : (d : Contents) → IsWellFormed d → (kind : Kind) (pose : Pose) (hidden : Bool) (pl : Place) → nat_le most_records (length d.records) ≡ false → (d.next == 4294967295) ≡ false → has_sides kind ≡ true → has_vertices kind ≡ true → is_pose pose ≡ true → reaches_page 31 d.records pl.parent ≡ true → AllByRecursion (IsFree d.next pl.parent pl.index) d.records → IsKey pl.index → IsWellFormed (effect_of (change.Create d.next kind pose hidden pl) d)
created-well d w kind pose hidden pl room unspent sides edges posed reached free key =
    let rs = d.records in
    let r : Record = record { id = d.next; kind = kind; place = pl; pose = pose; hidden = hidden } in
    let near = pose-limits pose posed in
    let below : All (λ (s : Record). s.id < d.next) rs = All-weaker (λ (s : Record). (1 ≤ s.id) × (s.id < d.next)) (λ (s : Record). s.id < d.next) (λ s m. m.1) rs w.ids in
    let above : 1 ≤ d.next = w.next_above in
    let under : d.next < 2 ^ 32 = w.next_below in
    let one : length (rs ++ r ∷ []) ≡ length rs + 1 = length-append rs (r ∷ []) in
    record {
      next_above = omega arith;
      next_below = next-more d.next unspent under;
      few = few-more (length rs) (length (rs ++ r ∷ [])) room one;
      rising = rising-push rs r w.rising below;
      ids = All-push (λ (s : Record). (1 ≤ s.id) × (s.id < d.next + 1)) rs r (All-weaker (λ (s : Record). (1 ≤ s.id) × (s.id < d.next)) (λ (s : Record). (1 ≤ s.id) × (s.id < d.next + 1)) (λ s m. (m.0, omega arith)) rs w.ids) (omega arith, omega arith);
      limits = All-push IsInLimits rs r w.limits (record { quarter = near.0; reach = near.1; kind = sound-known kind sides edges; key = key });
      places = places-push rs r w.places below free;
      grounded = All-push (λ (s : Record). reaches_page 31 (rs ++ r ∷ []) s.place.parent ≡ true) rs r
          (All-weaker (λ (s : Record). reaches_page 31 rs s.place.parent ≡ true) (λ (s : Record). reaches_page 31 (rs ++ r ∷ []) s.place.parent ≡ true) (λ s m. reaches-push 31 rs r s.place.parent m) rs w.grounded)
          (reaches-push 31 rs r pl.parent reached);
    }

pub create-fits : (d : Contents) → IsWellFormed d → (kind : Kind) (pose : Pose) (hidden : Bool) (p : Parent) (spot : Spot) (c : Change) → HasKey c → placed p (create_index kind pose p spot d) (λ place. change.Create d.next kind pose hidden place) ≡ Ok c → Fits c d
create-fits d w kind pose hidden p spot c keyed h =
    let rs = d.records in
    let among = siblings d.next p rs in
    let k = placed-ok p (create_index kind pose p spot d) (λ place. change.Create d.next kind pose hidden place) c h in
    let last : Result (List ℕ) Refusal = index_at spot among in
    let edges : Result (List ℕ) Refusal = refused_if (not (has_vertices kind)) BadPolygon last in
    let turned : Result (List ℕ) Refusal = refused_if (not (is_pose pose)) BadPose edges in
    let sized : Result (List ℕ) Refusal = refused_if (not (has_sides kind)) BadSize turned in
    let spent : Result (List ℕ) Refusal = refused_if (d.next == 4294967295) IdsSpent sized in
    let many : Result (List ℕ) Refusal = refused_if (nat_le most_records (length rs)) TooMany spent in
    let deep : Result (List ℕ) Refusal = refused_if (not (reaches_page 31 rs p)) TooDeep many in
    let leaf : Result (List ℕ) Refusal = refused_if (not (can_have_children rs p)) NotAContainer deep in
    let a = refused-ok (not (has_parent rs p)) NoSuchParent leaf k.0 k.1 in
    let b = refused-ok (not (can_have_children rs p)) NotAContainer deep k.0 a.1 in
    let e = refused-ok (not (reaches_page 31 rs p)) TooDeep many k.0 b.1 in
    let f = refused-ok (nat_le most_records (length rs)) TooMany spent k.0 e.1 in
    let g = refused-ok (d.next == 4294967295) IdsSpent sized k.0 f.1 in
    let i = refused-ok (not (has_sides kind)) BadSize turned k.0 g.1 in
    let j = refused-ok (not (is_pose pose)) BadPose edges k.0 i.1 in
    let m = refused-ok (not (has_vertices kind)) BadPolygon last k.0 j.1 in
    let pl : Place = record { parent = p; index = k.0 } in
    subst (λ x. Fits x d) k.2
    (record {
      named = refl;
      left = created-well d w kind pose hidden pl f.0 g.0 (not-false (has_sides kind) i.0) (not-false (has_vertices kind) m.0) (not-false (is_pose pose) j.0) (not-false (reaches_page 31 rs p) e.0) (spot-free spot d.next p k.0 rs (have-keys rs w.limits) m.1) (subst HasKey (sym k.2) keyed);
    })
