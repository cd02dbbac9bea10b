-- Sorting by id keeps what is found and which paths reach the page.
use Rattle.std.proofs.Common.{◌≡◌, ℕ, zero, suc, ◌==◌, nat_lt, List, [], ◌∷◌, Bool, true, false, cond, Option, Some, refl, sym, ap, ◌∙◌, inl, inr}
use Rattle.std.specs.List.{AllByRecursion}
use Rattle.std.proofs.lemmas.Bool.{cases_Bool, true≢false, eq-eqb, eqb-true}
use Rattle.canvas_record.specs.declared.records.Parent.{Parent}
use Rattle.canvas_record.specs.declared.records.Parent.TheVariants.{Page, Shape}
use Rattle.canvas_record.specs.declared.records.Record.{Record}
use Rattle.canvas_record.specs.Contents.{record_of, reaches_from, reaches_page}
use Rattle.canvas_record.specs.Restored.{put_by_id, by_id}
use mathlib.Core.Path.{fun_ext}

-- no two have one id
abbrev pub HaveIds : List Record → Type 0
HaveIds [] = Unit {0}
HaveIds (r ∷ rs) = AllByRecursion (λ (s : Record). (s.id == r.id) ≡ false) rs × HaveIds rs

swap-cases : (r s : Record) (o : Option Record) (a b : Bool) → (a ≡ true → b ≡ true → ⊥) → cond a (Some s) (cond b (Some r) o) ≡ cond b (Some r) (cond a (Some s) o)
swap-cases r s o true true h = absurd (h refl refl)
swap-cases r s o true false h = refl
swap-cases r s o false true h = refl
swap-cases r s o false false h = refl

found-put : (p : ℕ) (r : Record) (rs : List Record) → AllByRecursion (λ (s : Record). (s.id == r.id) ≡ false) rs → record_of p (put_by_id r rs) ≡ cond (r.id == p) (Some r) (record_of p rs)
found-put p r [] a = refl
found-put p r (s ∷ rest) a = elim (cases_Bool (nat_lt s.id r.id)) [
  | inl t ↦ rw t (ap (λ o. cond (s.id == p) (Some s) o) (found-put p r rest a.1)
      ∙ swap-cases r s (record_of p rest) (s.id == p) (r.id == p) (λ e f. true≢false (sym (eq-eqb s.id r.id (eqb-true s.id p e ∙ sym (eqb-true r.id p f))) ∙ a.0)))
  | inr f ↦ rw f refl
]

pub put-all : (P : Record → Type 0) (r : Record) (l : List Record) → P r → AllByRecursion P l → AllByRecursion P (put_by_id r l)
put-all P r [] h a = (h, tt)
put-all P r (s ∷ rest) h a = elim (cases_Bool (nat_lt s.id r.id)) [ inl t ↦ rw t (a.0, put-all P r rest h a.1) | inr f ↦ rw f (h, a) ]

pub sorted-all : (P : Record → Type 0) (l : List Record) → AllByRecursion P l → AllByRecursion P (by_id l)
sorted-all P [] a = tt
sorted-all P (r ∷ rs) a = put-all P r (by_id rs) a.0 (sorted-all P rs a.1)

pub found-by_id : (p : ℕ) (rs : List Record) → HaveIds rs → record_of p (by_id rs) ≡ record_of p rs
found-by_id p [] h = refl
found-by_id p (r ∷ rs) h = found-put p r (by_id rs) (sorted-all (λ (s : Record). (s.id == r.id) ≡ false) rs h.0) ∙ ap (λ o. cond (r.id == p) (Some r) o) (found-by_id p rs h.1)

from-same : (up down : Parent → Bool) → ((q : Parent) → up q ≡ down q) → (o : Option Record) → reaches_from up o ≡ reaches_from down o
from-same up down k o = ap (λ f. reaches_from f o) (fun_ext k)

pub reaches-by_id : (n : ℕ) (rs : List Record) (q : Parent) → HaveIds rs → reaches_page n (by_id rs) q ≡ reaches_page n rs q
unfolding reaches_page
reaches-by_id zero rs Page h = refl
reaches-by_id zero rs (Shape p) h = refl
reaches-by_id (suc n) rs Page h = refl
reaches-by_id (suc n) rs (Shape p) h =
    ap (reaches_from (λ q. reaches_page n (by_id rs) q)) (found-by_id p rs h)
    ∙ from-same (λ q. reaches_page n (by_id rs) q) (λ q. reaches_page n rs q) (λ q. reaches-by_id n rs q h) (record_of p rs)
