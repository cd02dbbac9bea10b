-- Looking an id up among records in rising id.
use Rattle.std.proofs.Common.{◌≡◌, ℕ, zero, suc, ◌<◌, ◌==◌, List, [], ◌∷◌, true, false, Some, None, refl, sym, ap, ◌∙◌, arith, inl, inr, subst, length, get_or, ◌++◌, cond}
use Rattle.std.specs.List.{AllByRecursion}
use Rattle.std.proofs.lemmas.Bool.{cases_Bool, eq-eqb, eqb-true}
use Rattle.std.proofs.lemmas.List.{get_or_default}
use Rattle.canvas_record.specs.declared.records.Record.{Record}
use Rattle.canvas_record.specs.Contents.{record_of, AreRising}

pub above-at : (n : ℕ) (rs : List Record) (j : ℕ) (d : Record) → AllByRecursion (λ (s : Record). n < s.id) rs → j < length rs → n < (get_or rs j d).id
above-at n [] j d a h = absurd (omega arith)
above-at n (x ∷ rs) zero d a h = a.0
above-at n (x ∷ rs) (suc j) d a h = above-at n rs j d a.1 (omega arith)

-- ids rise from any place to any later one
pub rising-at : (rs : List Record) (i j : ℕ) (d : Record) → AreRising rs → i < j → j < length rs → (get_or rs i d).id < (get_or rs j d).id
rising-at [] i j d w l h = absurd (omega arith)
rising-at (x ∷ rs) zero zero d w l h = absurd (omega arith)
rising-at (x ∷ rs) zero (suc j) d w l h = above-at x.id rs j d w.0 (omega arith)
rising-at (x ∷ rs) (suc i) zero d w l h = absurd (omega arith)
rising-at (x ∷ rs) (suc i) (suc j) d w l h = rising-at rs i j d w.1 (omega arith) (omega arith)

pub other-id : (a b : ℕ) → (a ≡ b → ⊥) → (a == b) ≡ false
other-id a b h = elim (cases_Bool (a == b)) [ inl t ↦ absurd (h (eqb-true a b t)) | inr f ↦ f ]

-- the record that was found
pub found-at : (rs : List Record) (i id : ℕ) (r : Record) → AreRising rs → i < length rs → r ≡ get_or rs i r → r.id ≡ id → Some r ≡ record_of id rs
found-at [] i id r w h e f = absurd (omega arith)
found-at (x ∷ rs) zero id r w h e f =
    let t : (x.id == id) ≡ true = eq-eqb x.id id (ap (λ (y : Record). y.id) (sym e) ∙ f) in
    rw t (ap Some e)
found-at (x ∷ rs) (suc i) id r w h e f =
    let above : x.id < r.id = subst (λ (y : Record). x.id < y.id) (sym e) (above-at x.id rs i r w.0 (omega arith)) in
    let n : (x.id == id) ≡ false = other-id x.id id (λ g. omega arith) in
    rw n (found-at rs i id r w.1 (omega arith) e f)

-- no record has the id
pub found-none : (rs : List Record) (id : ℕ) → ((k : ℕ) (d : Record) → k < length rs → (get_or rs k d).id ≡ id → ⊥) → None ≡ record_of id rs
found-none [] id h = refl
found-none (x ∷ rs) id h =
    let n : (x.id == id) ≡ false = other-id x.id id (h 0 x (omega arith)) in
    rw n (found-none rs id (λ k d l. h (suc k) d (omega arith)))

-- the record at a position has the id
pub found-here : (rs : List Record) (i id : ℕ) (d : Record) → AreRising rs → i < length rs → (get_or rs i d).id ≡ id → record_of id rs ≡ Some (get_or rs i d)
found-here rs i id d w h e =
    let r : Record = get_or rs i d in
    sym (found-at rs i id r w h (get_or_default rs i d r h) e)

pub found-has : (p : ℕ) (rs : List Record) (r : Record) → record_of p rs ≡ Some r → (r.id == p) ≡ true
found-has p [] r h = cc
found-has p (x ∷ rs) r h = elim (cases_Bool (x.id == p)) [
  | inl t ↦ (let g : Some x ≡ Some r = rw t at h in let same : x ≡ r = cc in ap (λ (s : Record). s.id == p) (sym same) ∙ t)
  | inr f ↦ (let g : record_of p rs ≡ Some r = rw f at h in found-has p rs r g)
]

pub found-push : (p : ℕ) (rs : List Record) (r s : Record) → record_of p rs ≡ Some s → record_of p (rs ++ r ∷ []) ≡ Some s
found-push p [] r s h = cc
found-push p (x ∷ rs) r s h = elim (cases_Bool (x.id == p)) [ inl t ↦ rw t (rw t at h) | inr n ↦ rw n (found-push p rs r s (rw n at h)) ]

pub found-last : (p : ℕ) (rs : List Record) (r : Record) → record_of p rs ≡ None → record_of p (rs ++ r ∷ []) ≡ cond (r.id == p) (Some r) None
found-last p [] r h = refl
found-last p (x ∷ rs) r h = elim (cases_Bool (x.id == p)) [ inl t ↦ (let g : Some x ≡ None = rw t at h in cc) | inr n ↦ rw n (found-last p rs r (rw n at h)) ]
