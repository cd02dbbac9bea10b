-- A deletion that is decided fits: what stays reaches the page without what goes.
use Rattle.std.proofs.Common.{◌≡◌, ℕ, zero, suc, ◌+◌, ◌-◌, ◌<◌, ◌≤◌, ◌==◌, List, [], ◌∷◌, Bool, true, false, not, Some, Result, Ok, refl, sym, ap, ◌∙◌, arith, inl, inr, subst, length}
use Rattle.std.specs.List.{AllByRecursion}
use Rattle.std.proofs.lemmas.Bool.{cases_Bool, or_parts, and_from}
use Rattle.canvas_record.specs.declared.records.Parent.{Parent}
use Rattle.canvas_record.specs.declared.records.Parent.TheVariants.{Page, Shape}
use Rattle.canvas_record.specs.declared.records.Record.{Record}
use Rattle.canvas_record.specs.declared.edits.Change.{Change}
use Rattle.canvas_record.specs.declared.edits.Change.TheVariants as change
use Rattle.canvas_record.specs.declared.refusals.Refusal.{Refusal}
use Rattle.canvas_record.specs.declared.refusals.Refusal.TheVariants.{NoSuchShape}
use Rattle.canvas_record.specs.Contents.{Contents, IsWellFormed, record_of, is_container, reaches_from, reaches_page, AreRising, most_records}
use Rattle.canvas_record.specs.Tree.{HavePlaces, IsElsewhere, IsInLimits}
use Rattle.canvas_record.specs.Effect.{effect_of, Fits}
use Rattle.canvas_record.specs.Siblings.{refused_if}
use Rattle.canvas_record.specs.Decision.{has_shape}
use Rattle.canvas_doc.proofs.fitting.Fit.{some-there}
use Rattle.canvas_record.proofs.Accepted.{refused-ok, not-false}
use Rattle.std.proofs.Common.{filter, ◌||◌}
use Rattle.canvas_doc.proofs.tree.Paths.{below-page}
use Rattle.std.proofs.lemmas.List.Elements.{All-filter, filter_passes}
use Rattle.canvas_record.specs.Effect.{is_below, is_below_from, is_in_subtree}
use Rattle.canvas_doc.proofs.lists.Tests.{not-true, all-both}
use Rattle.canvas_doc.proofs.tree.Parents.{from-some}

above-filter : (n : ℕ) (t : Record → Bool) (rs : List Record) → AllByRecursion (λ (s : Record). n < s.id) rs → AllByRecursion (λ (s : Record). n < s.id) (filter t rs)
above-filter n t [] a = tt
above-filter n t (r ∷ rs) a = elim (cases_Bool (t r)) [ inl e ↦ rw e (a.0, above-filter n t rs a.1) | inr e ↦ rw e (above-filter n t rs a.1) ]

pub rising-filter : (t : Record → Bool) (rs : List Record) → AreRising rs → AreRising (filter t rs)
rising-filter t [] a = tt
rising-filter t (r ∷ rs) a = elim (cases_Bool (t r)) [ inl e ↦ rw e (above-filter r.id t rs a.0, rising-filter t rs a.1) | inr e ↦ rw e (rising-filter t rs a.1) ]

elsewhere-filter : (r : Record) (t : Record → Bool) (rs : List Record) → AllByRecursion (IsElsewhere r) rs → AllByRecursion (IsElsewhere r) (filter t rs)
elsewhere-filter r t [] a = tt
elsewhere-filter r t (s ∷ rs) a = elim (cases_Bool (t s)) [ inl e ↦ rw e (a.0, elsewhere-filter r t rs a.1) | inr e ↦ rw e (elsewhere-filter r t rs a.1) ]

places-filter : (t : Record → Bool) (rs : List Record) → HavePlaces rs → HavePlaces (filter t rs)
places-filter t [] a = tt
places-filter t (r ∷ rs) a = elim (cases_Bool (t r)) [ inl e ↦ rw e (elsewhere-filter r t rs a.0, places-filter t rs a.1) | inr e ↦ rw e (places-filter t rs a.1) ]

fewer : (t : Record → Bool) (rs : List Record) → length (filter t rs) ≤ length rs
fewer t [] = omega arith
fewer t (r ∷ rs) = let ih : length (filter t rs) ≤ length rs = fewer t rs in elim (cases_Bool (t r)) [ inl e ↦ rw e (omega arith) | inr e ↦ rw e (omega arith) ]

found-kept : (p : ℕ) (t : Record → Bool) (rs : List Record) (r : Record) → record_of p rs ≡ Some r → t r ≡ true → record_of p (filter t rs) ≡ Some r
found-kept p t [] r h k = cc
found-kept p t (x ∷ rs) r h k = elim (cases_Bool (x.id == p)) [
  | inl e ↦ (let g : Some x ≡ Some r = rw e at h in let same : x ≡ r = cc in let m : t x ≡ true = ap t same ∙ k in rw (m, e) g)
  | inr e ↦ (let g : record_of p rs ≡ Some r = rw e at h in elim (cases_Bool (t x)) [
    | inl m ↦ rw (m, e) (found-kept p t rs r g k)
    | inr m ↦ rw m (found-kept p t rs r g k)
  ])
]

-- once the page is reached, more steps find nothing more
pub below-fuel : (n m id : ℕ) (rs : List Record) (q : Parent) → reaches_page n rs q ≡ true → is_below (n + m) id rs q ≡ is_below n id rs q
unfolding is_below reaches_page
below-fuel zero m id rs Page h = below-page (zero + m) id rs ∙ sym (below-page zero id rs)
below-fuel zero m id rs (Shape p) h = cc
below-fuel (suc n) m id rs Page h = below-page (suc n + m) id rs ∙ sym (below-page (suc n) id rs)
below-fuel (suc n) m id rs (Shape p) h =
    let e : suc n + m ≡ suc (n + m) = omega arith in
    let s = from-some (λ q. reaches_page n rs q) (record_of p rs) h in
    let f = below-fuel n m id rs s.0.place.parent s.3 in
    ap (λ k. is_below k id rs (Shape p)) e
    ∙ (ap (is_below_from id (λ q. is_below (n + m) id rs q)) s.1 ∙ ap (λ b. (s.0.id == id) || b) f ∙ sym (ap (is_below_from id (λ q. is_below n id rs q)) s.1))

-- what is not below the shape reaches the page without what is
pub reaches-kept : (n id : ℕ) (rs : List Record) (q : Parent) → n < 32 → reaches_page n rs q ≡ true → is_below n id rs q ≡ false → reaches_page n (filter (λ r. not (is_in_subtree id rs r)) rs) q ≡ true
unfolding is_below reaches_page
reaches-kept zero id rs Page l h b = refl
reaches-kept zero id rs (Shape p) l h b = cc
reaches-kept (suc n) id rs Page l h b = refl
reaches-kept (suc n) id rs (Shape p) l h b =
    let s = from-some (λ q. reaches_page n rs q) (record_of p rs) h in
    let r = s.0 in
    let open_ : ((r.id == id) || is_below n id rs r.place.parent) ≡ false = sym (ap (is_below_from id (λ q. is_below n id rs q)) s.1) ∙ b in
    let parts = or_parts (r.id == id) (is_below n id rs r.place.parent) open_ in
    let sum : n + (32 - n) ≡ 32 = omega arith in
    let far : is_below 32 id rs r.place.parent ≡ false = ap (λ k. is_below k id rs r.place.parent) (sym sum) ∙ below-fuel n (32 - n) id rs r.place.parent s.3 ∙ parts.1 in
    let kept : not ((r.id == id) || is_below 32 id rs r.place.parent) ≡ true = rw (parts.0, far) refl in
    ap (reaches_from (λ q. reaches_page n (filter (λ x. not (is_in_subtree id rs x)) rs) q)) (found-kept p (λ x. not (is_in_subtree id rs x)) rs r s.1 kept)
    ∙ and_from (is_container r.kind) (reaches_page n (filter (λ x. not (is_in_subtree id rs x)) rs) r.place.parent) s.2 (reaches-kept n id rs r.place.parent (omega arith) s.3 parts.1)

-- all that stay
pub deleted-well : (d : Contents) → IsWellFormed d → (id : ℕ) → IsWellFormed (effect_of (change.Delete id) d)
deleted-well d w id =
    let rs = d.records in
    let t : Record → Bool = λ r. not (is_in_subtree id rs r) in
    let few : length rs ≤ most_records = w.few in
    let less : length (filter t rs) ≤ length rs = fewer t rs in
    record {
      next_above = w.next_above;
      next_below = w.next_below;
      few = omega arith;
      rising = rising-filter t rs w.rising;
      ids = All-filter t (λ (r : Record). (1 ≤ r.id) × (r.id < d.next)) rs w.ids;
      limits = All-filter t IsInLimits rs w.limits;
      places = places-filter t rs w.places;
      grounded = all-both (λ r. reaches_page 31 rs r.place.parent ≡ true) (λ r. t r ≡ true) (λ r. reaches_page 31 (filter t rs) r.place.parent ≡ true)
          (λ r h k.
          let out = or_parts (r.id == id) (is_below 32 id rs r.place.parent) (not-true (is_in_subtree id rs r) k) in
          reaches-kept 31 id rs r.place.parent (omega arith) h (sym (below-fuel 31 1 id rs r.place.parent h) ∙ out.1))
          (filter t rs) (All-filter t (λ (r : Record). reaches_page 31 rs r.place.parent ≡ true) rs w.grounded) (filter_passes t rs);
    }

pub delete-fits : (d : Contents) → IsWellFormed d → (id : ℕ) (c : Change) → refused_if (not (has_shape d.records id)) NoSuchShape (Ok (change.Delete id)) ≡ Ok c → Fits c d
delete-fits d w id c h =
    let last : Result Change Refusal = Ok (change.Delete id) in
    let a = refused-ok (not (has_shape d.records id)) NoSuchShape last c h in
    let e : change.Delete id ≡ c = cc (a.1) in
    subst (λ x. Fits x d) e
    (record {
      named = some-there (record_of id d.records) (not-false (has_shape d.records id) a.0);
      left = deleted-well d w id;
    })
