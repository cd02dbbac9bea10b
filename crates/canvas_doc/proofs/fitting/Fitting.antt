-- A change that passes the tests fits.
use Rattle.std.proofs.Common.{◌≡◌, ℕ, zero, suc, ◌==◌, List, Bool, true, false, cond, not, ◌&&◌, ◌||◌, Some, refl, sym, ap, ◌∙◌, subst, map, All, length, nat_le}
use Rattle.std.proofs.lemmas.Bool.{true≢false, and_parts, eq-eqb, eqb-true}
use Rattle.std.proofs.lemmas.List.Elements.{All-map, All-weaker}
use Rattle.canvas_shape.specs.declared.Kind.{Kind}
use Rattle.canvas_shape.specs.Inside.{IsSound}
use Rattle.canvas_record.specs.declared.records.Parent.{Parent}
use Rattle.canvas_record.specs.declared.records.Parent.TheVariants.{Page, Shape}
use Rattle.canvas_record.specs.declared.records.Record.{Record}
use Rattle.canvas_record.specs.declared.records.Place.{Place}
use Rattle.canvas_record.specs.declared.edits.Change.{Change}
use Rattle.canvas_record.specs.declared.edits.Change.TheVariants as change
use Rattle.canvas_record.specs.Children.{same_parent}
use Rattle.canvas_record.specs.Contents.{Contents, IsWellFormed, record_of, is_container, reaches_from, reaches_page, most_records}
use Rattle.canvas_record.specs.Effect.{at_id, Fits, HasKey}
use Rattle.canvas_record.specs.Siblings.{siblings, is_taken}
use Rattle.canvas_record.specs.Decision.{has_shape}
use Rattle.canvas_plane.specs.Limits.{is_pose}
use Rattle.canvas_shape.specs.Limits.{has_sides, has_vertices}
use Rattle.canvas_shape.proofs.Limits.{sound-known}
use Rattle.canvas_doc.proofs.tree.Paths.{changed, found-after}
use Rattle.canvas_doc.proofs.tree.Maps.{at-keeps, places-map, places-moved, AreGrounded, all-from_test}
use Rattle.canvas_doc.proofs.fitting.Fit.{some-there, changed-well}
use Rattle.canvas_record.specs.Children.{is_child}
use Rattle.canvas_doc.specs.Fitting.{fits_test, has_no_child}
use Rattle.canvas_record.specs.Decision.{lies_too_deep}
use Rattle.canvas_doc.proofs.siblings.Free.{taken-free}
use Rattle.canvas_doc.proofs.fitting.Fit.{moved-grounded, found-all}
use Rattle.canvas_doc.proofs.fitting.FitMore.{kept-well, pose-limits}
use Rattle.canvas_doc.proofs.fitting.FitCreate.{created-well}
use Rattle.canvas_doc.proofs.fitting.FitDelete.{deleted-well}
use Rattle.canvas_doc.proofs.spacing.Respaced.{respaced-well, there}
use Rattle.canvas_doc.proofs.lists.Tests.{not-true, all-both}
use Rattle.canvas_doc.proofs.tree.Parents.{from-some}
use Rattle.canvas_doc.proofs.tree.Found.{found-has}

kind-cases : (b : Bool) (kind : Kind) (r : Record) (up : Parent → Bool) → (b ≡ true → is_container kind ≡ true) → is_container r.kind ≡ true → up r.place.parent ≡ true → reaches_from up (Some (cond b (record r { kind = kind }) r)) ≡ true
kind-cases true kind r up k c u = rw (k refl, u) refl
kind-cases false kind r up k c u = rw (c, u) refl

-- a shape that becomes or stays a container blocks no path
reaches-kind : (n id : ℕ) (kind : Kind) (rs : List Record) (q : Parent) → is_container kind ≡ true → reaches_page n rs q ≡ true → reaches_page n (at_id id (λ r. record r { kind = kind }) rs) q ≡ true
unfolding reaches_page
reaches-kind zero id kind rs Page k h = refl
reaches-kind zero id kind rs (Shape p) k h = cc
reaches-kind (suc n) id kind rs Page k h = refl
reaches-kind (suc n) id kind rs (Shape p) k h =
    let s = from-some (λ q. reaches_page n rs q) (record_of p rs) h in
    let up : Parent → Bool = λ q. reaches_page n (at_id id (λ r. record r { kind = kind }) rs) q in
    ap (reaches_from up) (found-after id p (λ r. record r { kind = kind }) (λ r. refl) rs ∙ ap (changed id (λ r. record r { kind = kind })) s.1)
    ∙ kind-cases (s.0.id == id) kind s.0 up (λ _. k) s.2 (reaches-kind n id kind rs s.0.place.parent k s.3)

same-eqb : (a b c : ℕ) → (a == b) ≡ true → (a == c) ≡ true → (b == c) ≡ true
same-eqb a b c h k = eq-eqb b c (sym (eqb-true a b h) ∙ eqb-true a c k)

-- no path meets a shape without children
reaches-leaf : (n id : ℕ) (kind : Kind) (rs : List Record) (q : Parent) → All (λ (r : Record). not (is_child (Shape id) r) ≡ true) rs → same_parent q (Shape id) ≡ false → reaches_page n rs q ≡ true → reaches_page n (at_id id (λ r. record r { kind = kind }) rs) q ≡ true
unfolding reaches_page
reaches-leaf zero id kind rs Page a e h = refl
reaches-leaf zero id kind rs (Shape p) a e h = cc
reaches-leaf (suc n) id kind rs Page a e h = refl
reaches-leaf (suc n) id kind rs (Shape p) a e h =
    let s = from-some (λ q. reaches_page n rs q) (record_of p rs) h in
    let up : Parent → Bool = λ q. reaches_page n (at_id id (λ r. record r { kind = kind }) rs) q in
    let apart : same_parent s.0.place.parent (Shape id) ≡ false = not-true (is_child (Shape id) s.0) (found-all (λ (r : Record). not (is_child (Shape id) r) ≡ true) p rs s.0 a s.1) in
    ap (reaches_from up) (found-after id p (λ r. record r { kind = kind }) (λ r. refl) rs ∙ ap (changed id (λ r. record r { kind = kind })) s.1)
    ∙ kind-cases (s.0.id == id) kind s.0 up (λ t. absurd (true≢false (sym (same-eqb s.0.id p id (found-has p rs s.0 s.1) t) ∙ e))) s.2 (reaches-leaf n id kind rs s.0.place.parent a apart s.3)

reshaped-grounded : (b : Bool) (id : ℕ) (kind : Kind) (rs : List Record) → is_container kind ≡ b → (b ≡ false → has_no_child id rs ≡ true) → AreGrounded rs → All (λ (r : Record). reaches_page 31 (at_id id (λ s. record s { kind = kind }) rs) r.place.parent ≡ true) rs
reshaped-grounded true id kind rs e k g =
    All-weaker (λ (r : Record). reaches_page 31 rs r.place.parent ≡ true) (λ (r : Record). reaches_page 31 (at_id id (λ s. record s { kind = kind }) rs) r.place.parent ≡ true) (λ r h. reaches-kind 31 id kind rs r.place.parent e h) rs g
reshaped-grounded false id kind rs e k g =
    let none : All (λ (r : Record). not (is_child (Shape id) r) ≡ true) rs = all-from_test (λ r. not (is_child (Shape id) r)) rs (k refl) in
    all-both (λ (r : Record). reaches_page 31 rs r.place.parent ≡ true) (λ (r : Record). not (is_child (Shape id) r) ≡ true) (λ (r : Record). reaches_page 31 (at_id id (λ s. record s { kind = kind }) rs) r.place.parent ≡ true)
    (λ r h m. reaches-leaf 31 id kind rs r.place.parent none (not-true (is_child (Shape id) r) m) h) rs g none

or-right : (a b : Bool) → (a || b) ≡ true → a ≡ false → b ≡ true
or-right true b h k = cc
or-right false b h k = h

pub fits-sound : (c : Change) (d : Contents) → IsWellFormed d → HasKey c → fits_test c d ≡ true → Fits c d
fits-sound (change.Create id kind pose hidden pl) d w keyed h =
    let taken = is_taken pl.index (siblings d.next pl.parent d.records) in
    let reached = reaches_page 31 d.records pl.parent in
    let a = and_parts (id == d.next) (not (d.next == 4294967295) && (not (nat_le most_records (length d.records)) && (has_sides kind && (has_vertices kind && (is_pose pose && (reached && not taken)))))) h in
    let b = and_parts (not (d.next == 4294967295)) (not (nat_le most_records (length d.records)) && (has_sides kind && (has_vertices kind && (is_pose pose && (reached && not taken))))) a.1 in
    let e = and_parts (not (nat_le most_records (length d.records))) (has_sides kind && (has_vertices kind && (is_pose pose && (reached && not taken)))) b.1 in
    let f = and_parts (has_sides kind) (has_vertices kind && (is_pose pose && (reached && not taken))) e.1 in
    let m = and_parts (has_vertices kind) (is_pose pose && (reached && not taken)) f.1 in
    let g = and_parts (is_pose pose) (reached && not taken) m.1 in
    let i = and_parts reached (not taken) g.1 in
    let same : id ≡ d.next = eqb-true id d.next a.0 in
    subst (λ n. Fits (change.Create n kind pose hidden pl) d) (sym same)
    (record {
      named = refl;
      left = created-well d w kind pose hidden pl (not-true (nat_le most_records (length d.records)) e.0) (not-true (d.next == 4294967295) b.0) f.0 m.0 g.0 i.0 (taken-free d.next pl.parent pl.index d.records (not-true taken i.1)) keyed;
    })
fits-sound (change.Move id pl) d w keyed h =
    let a = and_parts (has_shape d.records id) (not (lies_too_deep d.records id pl.parent) && not (is_taken pl.index (siblings id pl.parent d.records))) h in
    let b = and_parts (not (lies_too_deep d.records id pl.parent)) (not (is_taken pl.index (siblings id pl.parent d.records))) a.1 in
    record {
      named = some-there (record_of id d.records) a.0;
      left = changed-well d w id (λ r. record r { place = pl }) (λ r. refl) (λ r l. record { quarter = l.quarter; reach = l.reach; kind = l.kind; key = keyed })
          (places-moved id pl d.records w.rising (taken-free id pl.parent pl.index d.records (not-true (is_taken pl.index (siblings id pl.parent d.records)) b.1)) w.places)
          (moved-grounded id pl.parent pl.index d.records (not-true (lies_too_deep d.records id pl.parent) b.0));
    }
fits-sound (change.Pose id pose) d w keyed h =
    let a = and_parts (has_shape d.records id) (is_pose pose) h in
    let l = pose-limits pose a.1 in
    record {
      named = some-there (record_of id d.records) a.0;
      left = kept-well d w id (λ r. record r { pose = pose }) (λ r. refl) (λ r. refl) (λ r m. record { quarter = l.0; reach = l.1; kind = m.kind; key = m.key }) (λ r. refl);
    }
fits-sound (change.Reshape id kind) d w keyed h =
    let rs = d.records in
    let a = and_parts (has_shape rs id) (has_sides kind && (has_vertices kind && (is_container kind || has_no_child id rs))) h in
    let e = and_parts (has_sides kind) (has_vertices kind && (is_container kind || has_no_child id rs)) a.1 in
    let b = and_parts (has_vertices kind) (is_container kind || has_no_child id rs) e.1 in
    let f : Record → Record = λ r. record r { kind = kind } in
    let g : Record → Record = λ r. cond (r.id == id) (f r) r in
    let sound : IsSound kind = sound-known kind e.0 b.0 in
    let before : All (λ (r : Record). reaches_page 31 (map g rs) r.place.parent ≡ true) rs = reshaped-grounded (is_container kind) id kind rs refl (or-right (is_container kind) (has_no_child id rs) b.1) w.grounded in
    record {
      named = some-there (record_of id rs) a.0;
      left = changed-well d w id f (λ r. refl) (λ r m. record { quarter = m.quarter; reach = m.reach; kind = sound; key = m.key })
          (places-map g (λ r. at-keeps (λ s. s.place) id f (λ s. refl) r) rs w.places)
          (All-map (λ (r : Record). reaches_page 31 (map g rs) r.place.parent ≡ true) g rs
          (All-weaker (λ (r : Record). reaches_page 31 (map g rs) r.place.parent ≡ true) (λ (r : Record). reaches_page 31 (map g rs) (g r).place.parent ≡ true)
          (λ r m. ap (λ (x : Place). reaches_page 31 (map g rs) x.parent) (at-keeps (λ s. s.place) id f (λ s. refl) r) ∙ m) rs before));
    }
fits-sound (change.Show id hidden) d w keyed h =
    record {
      named = some-there (record_of id d.records) h;
      left = kept-well d w id (λ r. record r { hidden = hidden }) (λ r. refl) (λ r. refl) (λ r m. record { quarter = m.quarter; reach = m.reach; kind = m.kind; key = m.key }) (λ r. refl);
    }
fits-sound (change.Delete id) d w keyed h = record { named = some-there (record_of id d.records) h; left = deleted-well d w id }
fits-sound (change.Respace p) d w keyed h = record { named = there p d.records h; left = respaced-well d w p }
