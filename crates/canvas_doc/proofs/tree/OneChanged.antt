-- A change of one record is a map, and replaces that record alone.
use Rattle.std.proofs.Common.{Bool, ◌≡◌, ◌≢◌, ℕ, ◌<◌, cond, nat_lt, ◌==◌, ◌∙◌, List, [], ◌∷◌, Option, Some, None, MatchOption, true, false, ap, arith, get_or, inl, inr, length, map, refl, set, sym}
use Rattle.std.proofs.Math.ListN.{length-set}
use Rattle.std.proofs.lemmas.Bool.{cases_Bool, eq-eqb, eqb-true, true≢false}
use Rattle.std.proofs.lemmas.Bool.Decides.{nat_tests}
use Rattle.std.proofs.lemmas.List.{get_or_default, get_or-map, get_or-set_other, get_or-set_same, length-map, same_lists}
use Rattle.std.proofs.lemmas.Option.{same_Some}
use Rattle.canvas_record.specs.declared.records.Standing.{Standing}
use Rattle.canvas_record.specs.declared.records.Place.{Place}
use Rattle.canvas_record.specs.declared.records.Record.{Record}
use Rattle.canvas_record.specs.declared.edits.Change.{Change}
use Rattle.canvas_record.specs.declared.edits.Change.TheVariants as change
use Rattle.canvas_record.specs.Contents.{Contents, record_of, AreRising, IsStanding, StandsAt}
use Rattle.canvas_record.specs.Effect.{effect_of, changes_one, changed_by, Replaces, ReplacesAt}
use Rattle.canvas_doc.proofs.tree.Found.{other-id, rising-at, found-has}
use Rattle.canvas_doc.proofs.spacing.Respaced.{IsIn}

-- no record has an id that is not there
pub absent-id : (id : ℕ) (rs : List Record) (r : Record) → record_of id rs ≡ None → IsIn r rs → (r.id == id) ≡ false
absent-id id [] r e m = absurd m
absent-id id (x ∷ rs) r e m = elim (cases_Bool (x.id == id)) [
  | inl t ↦ (let some : Some x ≡ None = sym (ap (λ b. cond b (Some x) (record_of id rs)) t) ∙ e in cc)
  | inr f ↦ (let none : record_of id rs ≡ None = sym (ap (λ b. cond b (Some x) (record_of id rs)) f) ∙ e in
      elim m [
        | inl same ↦ ap (λ (s : Record). s.id == id) (sym same) ∙ f
        | inr later ↦ absent-id id rs r none later
      ])
]

-- an id stands at one position
pub id-only-here : (rs : List Record) (id at q : ℕ) (r : Record) → AreRising rs → StandsAt rs id at → q ≢ at → q < length rs → get_or rs q r ≡ r → (r.id == id) ≡ false
id-only-here rs id at q r up stands other l here = other-id r.id id (λ e.
    let found : (get_or rs at r).id ≡ id = eqb-true (get_or rs at r).id id (found-has id rs (get_or rs at r) (stands.1 r)) in
    let own : (get_or rs q r).id ≡ r.id = ap (λ (x : Record). x.id) here in
    let there : at < length rs = stands.0 in
    elim (cases_Bool (nat_lt q at)) [
      | inl t ↦ (let less : (get_or rs q r).id < (get_or rs at r).id = rising-at rs q at r up (grind (arith, nat_tests)) there in absurd (omega arith))
      | inr f ↦ elim (cases_Bool (nat_lt at q)) [
        | inl t ↦ (let less : (get_or rs at r).id < (get_or rs q r).id = rising-at rs at q r up (grind (arith, nat_tests)) l in absurd (omega arith))
        | inr g ↦ absurd (other (grind (arith, nat_tests)))
      ]
    ])

pub one-effect : (ch : Change) (d : Contents) → changes_one ch ≡ true → effect_of ch d ≡ record { records = map (changed_by ch) d.records; next = d.next }
one-effect (change.Create id kind pose hidden place) d h = cc
one-effect (change.Move id place) d h = refl
one-effect (change.Pose id pose) d h = refl
one-effect (change.Reshape id kind) d h = refl
one-effect (change.Show id hidden) d h = refl
one-effect (change.Delete id) d h = cc
one-effect (change.Respace p) d h = cc

-- records that a change leaves as they are
pub all-kept : (g : Record → Record) (rs : List Record) → ((r : Record) → IsIn r rs → g r ≡ r) → map g rs ≡ rs
all-kept g [] k = refl
all-kept g (r ∷ rs) k = ap (λ x. x ∷ map g rs) (k r (inl refl)) ∙ ap (λ l. r ∷ l) (all-kept g rs (λ s m. k s (inr m)))

-- all but one
others-kept : (g : Record → Record) (rs : List Record) (at : ℕ) → at < length rs → ((q : ℕ) (r : Record) → q ≢ at → q < length rs → get_or rs q r ≡ r → g r ≡ r) → (d : Record) → map g rs ≡ set rs at (g (get_or rs at d))
others-kept g rs at b k d =
    let long : length (map g rs) ≡ length rs = length-map rs g in
    same_lists (map g rs) (set rs at (g (get_or rs at d))) (long ∙ sym (length-set rs at (g (get_or rs at d))))
    (λ q e l.
    let within : q < length rs = omega arith in
    let r : Record = get_or rs q e in
    elim (cases_Bool (q == at)) [
      | inl t ↦ (let same : q ≡ at = eqb-true q at t in
          get_or-map g rs q d e within
          ∙ ap (λ n. g (get_or rs n d)) same
          ∙ sym (get_or-set_same rs at (g (get_or rs at d)) e b)
          ∙ ap (λ n. get_or (set rs at (g (get_or rs at d))) n e) (sym same))
      | inr f ↦ (let other : q ≢ at = λ same. true≢false (sym (eq-eqb q at same) ∙ f) in
          get_or-map g rs q e e within
          ∙ k q r other within (sym (get_or_default rs q e r within))
          ∙ sym (get_or-set_other rs at q (g (get_or rs at d)) e other))
    ])

-- a change of the record that has an id, if there is one
position-changed : (ch : Change) (id : ℕ) (rs : List Record) (o : Option ℕ) → AreRising rs → ((r : Record) → (r.id == id) ≡ false → changed_by ch r ≡ r) → MatchOption o (record_of id rs ≡ None) (λ at. StandsAt rs id at) → MatchOption o (map (changed_by ch) rs ≡ rs) (λ at. ReplacesAt ch rs at)
position-changed ch id rs None up k none = all-kept (changed_by ch) rs (λ r m. k r (absent-id id rs r none m))
position-changed ch id rs (Some at) up k stands = record {
  there = stands.0;
  only = others-kept (changed_by ch) rs at stands.0 (λ q r other l here. k r (id-only-here rs id at q r up stands other l here));
}

pub record-changed : (ch : Change) (id : ℕ) (rs : List Record) (o : Option Standing) → AreRising rs → ((r : Record) → (r.id == id) ≡ false → changed_by ch r ≡ r) → MatchOption o (record_of id rs ≡ None) (λ found. IsStanding rs id found.at found.shape.now)
    → MatchOption o (map (changed_by ch) rs ≡ rs) (λ found. Replaces ch rs found.at found.shape.now)
record-changed ch id rs None up k none = position-changed ch id rs None up k none
record-changed ch id rs (Some found) up k standing = record {
  there = position-changed ch id rs (Some found.at) up k standing.there;
  is = same_Some found.shape.now (get_or rs found.at found.shape.now) (sym standing.found ∙ standing.there.1 found.shape.now);
}

-- the records with the changed one in its place
pub made-whole : (ch : Change) (rs made : List Record) (at : ℕ) (r v x : Record) → ReplacesAt ch rs at → r ≡ get_or rs at r → v ≡ r → made ≡ set rs at x → x ≡ changed_by ch v → made ≡ map (changed_by ch) rs
made-whole ch rs made at r v x p is same m e = m ∙ ap (set rs at) (e ∙ ap (changed_by ch) (same ∙ is)) ∙ sym (p.only r)

-- a change that is no move keeps the place
kept-if : (b : Bool) (r s : Record) → s.place ≡ r.place → (cond b s r).place ≡ r.place
kept-if true r s e = e
kept-if false r s e = refl

pub place-kept : (ch : Change) → ((id : ℕ) (place : Place) → ch ≡ change.Move id place → ⊥) → (r : Record) → (changed_by ch r).place ≡ r.place
place-kept (change.Create id kind pose hidden place) n r = refl
place-kept (change.Move id place) n r = absurd (n id place refl)
place-kept (change.Pose id pose) n r = kept-if (r.id == id) r (record r { pose = pose }) refl
place-kept (change.Reshape id kind) n r = kept-if (r.id == id) r (record r { kind = kind }) refl
place-kept (change.Show id hidden) n r = kept-if (r.id == id) r (record r { hidden = hidden }) refl
place-kept (change.Delete id) n r = refl
place-kept (change.Respace p) n r = refl

-- the document with these records
pub whole-is : (ch : Change) (inside now : Contents) (made : List Record) → inside ≡ now → changes_one ch ≡ true → made ≡ map (changed_by ch) inside.records → record { records = made; next = inside.next } ≡ effect_of ch now
whole-is ch inside now made v one m = ap (λ (l : List Record). record { records = l; next = inside.next }) m ∙ sym (one-effect ch inside one) ∙ ap (effect_of ch) v
