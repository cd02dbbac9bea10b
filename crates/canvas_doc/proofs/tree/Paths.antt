-- Paths from a parent up, step by step.
use Rattle.std.proofs.Common.{◌≡◌, ℕ, zero, suc, ◌-◌, ◌<◌, ◌==◌, List, [], ◌∷◌, Bool, true, false, cond, not, ◌&&◌, Option, Some, None, refl, sym, ap, ◌∙◌, arith, inl, inr, length, get_or}
use Rattle.canvas_record.specs.Depth.{depth_of, depth_from, levels_to, levels_from}
use Rattle.std.proofs.lemmas.Bool.{cases_Bool}
use Rattle.std.specs.List.{list_all}
use Rattle.std.proofs.lemmas.List.Folds.{list_all_at}
use Rattle.canvas_record.specs.declared.records.Parent.{Parent}
use Rattle.canvas_record.specs.declared.records.Parent.TheVariants.{Page, Shape}
use Rattle.canvas_record.specs.declared.records.Record.{Record}
use Rattle.canvas_record.specs.Contents.{record_of, is_container, reaches_from, reaches_page}
use Rattle.canvas_record.specs.Effect.{at_id, is_below, is_below_from}
use Rattle.canvas_record.specs.Decision.{put_under, parent_after, lies_too_deep}

pub below-page : (n id : ℕ) (rs : List Record) → is_below n id rs Page ≡ false
unfolding is_below
below-page n id rs = elim n as (λ m. is_below m id rs Page ≡ false) [ zero ↦ refl | suc m ↦ refl ]

pub below-none : (n id p : ℕ) (rs : List Record) → n ≡ 0 → is_below n id rs (Shape p) ≡ false
unfolding is_below
below-none n id p rs h = rw h refl

-- one step up
pub below-step : (n id p : ℕ) (rs : List Record) (o : Option Record) → 0 < n → o ≡ record_of p rs → is_below n id rs (Shape p) ≡ is_below_from id (λ q. is_below (n - 1) id rs q) o
unfolding is_below
below-step zero id p rs o h e = absurd (omega arith)
below-step (suc n) id p rs o h e =
    let m : suc n - 1 ≡ n = omega arith in
    rw (m, e) refl

pub reaches-page : (n : ℕ) (rs : List Record) → reaches_page n rs Page ≡ true
unfolding reaches_page
reaches-page n rs = elim n as (λ m. reaches_page m rs Page ≡ true) [ zero ↦ refl | suc m ↦ refl ]

pub reaches-none : (n p : ℕ) (rs : List Record) → n ≡ 0 → reaches_page n rs (Shape p) ≡ false
unfolding reaches_page
reaches-none n p rs h = rw h refl

-- one step up
pub reaches-step : (n p : ℕ) (rs : List Record) (o : Option Record) → 0 < n → o ≡ record_of p rs → reaches_page n rs (Shape p) ≡ reaches_from (λ q. reaches_page (n - 1) rs q) o
unfolding reaches_page
reaches-step zero p rs o h e = absurd (omega arith)
reaches-step (suc n) p rs o h e =
    let m : suc n - 1 ≡ n = omega arith in
    rw (m, e) refl

-- the record of an id among those of which one was changed
abbrev pub changed : ℕ → (Record → Record) → Option Record → Option Record
changed id f None = None
changed id f (Some r) = Some (cond (r.id == id) (f r) r)

found-cases : (id at : ℕ) (f : Record → Record) (r : Record) (rest : Option Record) (same found : Bool) → (r.id == id) ≡ same → (r.id == at) ≡ found → (f r).id ≡ r.id → cond ((cond same (f r) r).id == at) (Some (cond same (f r) r)) (changed id f rest) ≡ changed id f (cond found (Some r) rest)
found-cases id at f r rest true true e g h = rw (h, g, e) refl
found-cases id at f r rest true false e g h = rw (h, g) refl
found-cases id at f r rest false true e g h = rw (g, e) refl
found-cases id at f r rest false false e g h = rw g refl

-- looking up an id after a change at one that keeps ids
pub found-after : (id at : ℕ) (f : Record → Record) → ((r : Record) → (f r).id ≡ r.id) → (rs : List Record) → record_of at (at_id id f rs) ≡ changed id f (record_of at rs)
found-after id at f k [] = refl
found-after id at f k (r ∷ rs) =
    ap (λ o. cond ((cond (r.id == id) (f r) r).id == at) (Some (cond (r.id == id) (f r) r)) o) (found-after id at f k rs)
    ∙ found-cases id at f r (record_of at rs) (r.id == id) (r.id == at) refl refl (k r)

-- one step up, after a shape was put under another parent
pub reaches-step_after : (n id p : ℕ) (u : Parent) (rs : List Record) (r : Record) → 0 < n → Some r ≡ record_of p rs → reaches_page n (put_under id u rs) (Shape p) ≡ (is_container r.kind && reaches_page (n - 1) (put_under id u rs) (parent_after id u r))
reaches-step_after n id p u rs r h e =
    reaches-step n p (put_under id u rs) (changed id (λ s. record s { place = record s.place { parent = u } }) (Some r)) h (ap (changed id (λ s. record s { place = record s.place { parent = u } })) e ∙ sym (found-after id p (λ s. record s { place = record s.place { parent = u } }) (λ s. refl) rs))
    ∙ (elim (r.id == id) as (λ b. (is_container (cond b (record r { place = record r.place { parent = u } }) r).kind && reaches_page (n - 1) (put_under id u rs) (cond b (record r { place = record r.place { parent = u } }) r).place.parent) ≡ (is_container r.kind && reaches_page (n - 1) (put_under id u rs) (cond b u r.place.parent))) [ true ↦ refl | false ↦ refl ])

pub reaches-nowhere_after : (n id p : ℕ) (u : Parent) (rs : List Record) → 0 < n → None ≡ record_of p rs → reaches_page n (put_under id u rs) (Shape p) ≡ false
reaches-nowhere_after n id p u rs h e =
    reaches-step n p (put_under id u rs) None h (ap (changed id (λ s. record s { place = record s.place { parent = u } })) e ∙ sym (found-after id p (λ s. record s { place = record s.place { parent = u } }) (λ s. refl) rs))

all-after : (n id : ℕ) (u : Parent) (all rs : List Record) → list_all (λ r. reaches_page n all r.place.parent) (put_under id u rs) ≡ list_all (λ r. reaches_page n all (parent_after id u r)) rs
all-after n id u all [] = refl
all-after n id u all (r ∷ rs) = elim (cases_Bool (r.id == id)) [
  | inl t ↦ rw t (ap (λ b. reaches_page n all u && b) (all-after n id u all rs))
  | inr f ↦ rw f (ap (λ b. reaches_page n all r.place.parent && b) (all-after n id u all rs))
]

pub deep-after : (rs : List Record) (id : ℕ) (u : Parent) → lies_too_deep rs id u ≡ not (list_all (λ r. reaches_page 31 (put_under id u rs) (parent_after id u r)) rs)
unfolding lies_too_deep
deep-after rs id u = ap not (all-after 31 id u (put_under id u rs) rs)

-- one that does not reach the page
pub deep-at : (rs : List Record) (id : ℕ) (u parent : Parent) (i : ℕ) (r : Record) (result : Bool) → i < length rs → r ≡ get_or rs i r → parent ≡ parent_after id u r → result ≡ reaches_page 31 (put_under id u rs) parent → result ≡ false → true ≡ lies_too_deep rs id u
deep-at rs id u parent i r result h e f g k =
    let t : Record → Bool = λ s. reaches_page 31 (put_under id u rs) (parent_after id u s) in
    let fails : t (get_or rs i r) ≡ false = ap t (sym e) ∙ ap (reaches_page 31 (put_under id u rs)) (sym f) ∙ sym g ∙ k in
    sym (deep-after rs id u ∙ ap not (list_all_at t rs i r h fails))

pub depth-page : (n : ℕ) (rs : List Record) → depth_of n rs Page ≡ 0
unfolding depth_of
depth-page n rs = elim n as (λ m. depth_of m rs Page ≡ 0) [ zero ↦ refl | suc m ↦ refl ]

pub depth-none : (n p : ℕ) (rs : List Record) → n ≡ 0 → depth_of n rs (Shape p) ≡ 0
unfolding depth_of
depth-none n p rs h = rw h refl

pub depth-step : (n p : ℕ) (rs : List Record) (o : Option Record) → 0 < n → o ≡ record_of p rs → depth_of n rs (Shape p) ≡ depth_from (λ q. depth_of (n - 1) rs q) o
unfolding depth_of
depth-step zero p rs o h e = absurd (omega arith)
depth-step (suc n) p rs o h e = let m : suc n - 1 ≡ n = omega arith in rw (m, e) refl

pub levels-page : (n id : ℕ) (rs : List Record) → levels_to n id rs Page ≡ 0
unfolding levels_to
levels-page n id rs = elim n as (λ m. levels_to m id rs Page ≡ 0) [ zero ↦ refl | suc m ↦ refl ]

pub levels-step : (n id p : ℕ) (rs : List Record) (o : Option Record) → 0 < n → o ≡ record_of p rs → levels_to n id rs (Shape p) ≡ levels_from id (λ q. levels_to (n - 1) id rs q) o
unfolding levels_to
levels-step zero id p rs o h e = absurd (omega arith)
levels-step (suc n) id p rs o h e = let m : suc n - 1 ≡ n = omega arith in rw (m, e) refl
