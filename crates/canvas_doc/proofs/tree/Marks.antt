-- Levels of records below a shape.
use Rattle.std.proofs.Common.{◌≡◌, ℕ, zero, suc, ◌+◌, ◌-◌, ◌<◌, ◌≤◌, ◌==◌, List, [], ◌∷◌, Bool, true, false, cond, ◌&&◌, Option, Some, None, refl, sym, ap, ◌∙◌, arith, length, get_or}
use Rattle.std.proofs.lemmas.Bool.{true≢false, and_parts}
use Rattle.canvas_record.specs.declared.records.Parent.{Parent}
use Rattle.canvas_record.specs.declared.records.Parent.TheVariants.{Page, Shape}
use Rattle.canvas_record.specs.declared.records.Record.{Record}
use Rattle.canvas_record.specs.Contents.{record_of, is_container, reaches_from, reaches_page}
use Rattle.canvas_record.specs.Depth.{levels_to, levels_from, levels_of, one_more}
use Rattle.canvas_doc.proofs.tree.Paths.{reaches-page, levels-page, levels-step, reaches-none, reaches-step}
use Rattle.canvas_doc.proofs.tree.Parents.{from-some}

-- once the page is reached, more steps find no more levels
levels-fuel : (n m id : ℕ) (rs : List Record) (q : Parent) → reaches_page n rs q ≡ true → levels_to (n + m) id rs q ≡ levels_to n id rs q
unfolding levels_to reaches_page
levels-fuel zero m id rs Page h = levels-page (zero + m) id rs ∙ sym (levels-page zero id rs)
levels-fuel zero m id rs (Shape p) h = cc
levels-fuel (suc n) m id rs Page h = levels-page (suc n + m) id rs ∙ sym (levels-page (suc n) id rs)
levels-fuel (suc n) m id rs (Shape p) h =
    let e : suc n + m ≡ suc (n + m) = omega arith in
    let s = from-some (λ q. reaches_page n rs q) (record_of p rs) h in
    let f = levels-fuel n m id rs s.0.place.parent s.3 in
    ap (λ k. levels_to k id rs (Shape p)) e
    ∙ (ap (levels_from id (λ q. levels_to (n + m) id rs q)) s.1 ∙ ap (λ x. cond (s.0.id == id) 1 (one_more x)) f ∙ sym (ap (levels_from id (λ q. levels_to n id rs q)) s.1))

-- what reaches the page reaches it with more steps
pub reaches-more : (n m : ℕ) (rs : List Record) (q : Parent) → reaches_page n rs q ≡ true → reaches_page (n + m) rs q ≡ true
unfolding reaches_page
reaches-more zero m rs Page h = reaches-page (zero + m) rs
reaches-more zero m rs (Shape p) h = cc
reaches-more (suc n) m rs Page h = reaches-page (suc n + m) rs
reaches-more (suc n) m rs (Shape p) h =
    let e : suc n + m ≡ suc (n + m) = omega arith in
    let s = from-some (λ q. reaches_page n rs q) (record_of p rs) h in
    ap (λ k. reaches_page k rs (Shape p)) e ∙ ap (reaches_from (λ q. reaches_page (n + m) rs q)) s.1
    ∙ ap (λ b. b && reaches_page (n + m) rs s.0.place.parent) s.2 ∙ reaches-more n m rs s.0.place.parent s.3

-- the parent of a record that reaches the page, a step up
pub reaches-up : (n p : ℕ) (rs : List Record) (r : Record) → reaches_page n rs (Shape p) ≡ true → record_of p rs ≡ Some r → reaches_page (n - 1) rs r.place.parent ≡ true
reaches-up zero p rs r h e = absurd (true≢false (sym h ∙ reaches-none 0 p rs refl))
reaches-up (suc n) p rs r h e = (and_parts (is_container r.kind) (reaches_page (suc n - 1) rs r.place.parent) (sym (reaches-step (suc n) p rs (Some r) (omega arith) (sym e)) ∙ h)).1

-- the levels of a parent's record are those of the way up from it
pub levels-up : (n p id : ℕ) (rs : List Record) (r : Record) → n ≤ 31 → reaches_page n rs (Shape p) ≡ true → record_of p rs ≡ Some r → levels_to 31 id rs (Shape p) ≡ levels_of id rs r
levels-up n p id rs r l h e =
    let up : reaches_page (n - 1) rs r.place.parent ≡ true = reaches-up n p rs r h e in
    let sum : n - 1 + (30 - (n - 1)) ≡ 30 = omega arith in
    let far : reaches_page 30 rs r.place.parent ≡ true = ap (λ k. reaches_page k rs r.place.parent) (sym sum) ∙ reaches-more (n - 1) (30 - (n - 1)) rs r.place.parent up in
    let same : levels_to 31 id rs r.place.parent ≡ levels_to 30 id rs r.place.parent = levels-fuel 30 1 id rs r.place.parent far in
    levels-step 31 id p rs (Some r) (omega arith) (sym e) ∙ ap (λ x. cond (r.id == id) 1 (one_more x)) (sym same)

-- a record other than the shape lies one level below its parent
pub level-below : (n p id : ℕ) (rs : List Record) (s r : Record) (level : ℕ) → n ≤ 31 → (s.id == id) ≡ false → s.place.parent ≡ Shape p → reaches_page n rs s.place.parent ≡ true → record_of p rs ≡ Some r → level ≡ levels_of id rs r → one_more level ≡ levels_of id rs s
level-below n p id rs s r level l other parent h e v =
    ap one_more (v ∙ sym (levels-up n p id rs r l (ap (reaches_page n rs) (sym parent) ∙ h) e))
    ∙ ap (λ q. one_more (levels_to 31 id rs q)) (sym parent)
    ∙ ap (λ b. cond b 1 (one_more (levels_to 31 id rs s.place.parent))) (sym other)

pub level-blocked : (p n : ℕ) (rs : List Record) (s : Record) → n ≡ 0 → s.place.parent ≡ Shape p → reaches_page n rs s.place.parent ≡ true → ⊥
level-blocked p n rs s z e h = true≢false (sym h ∙ ap (reaches_page n rs) e ∙ reaches-none n p rs z)

more-most : (b : Bool) (n m : ℕ) → n ≤ m → cond b 1 (one_more n) ≤ suc m
more-most true n m h = omega arith
more-most false zero m h = omega arith
more-most false (suc n) m h = omega arith

most-from : (id m : ℕ) (down : Parent → ℕ) → ((q : Parent) → down q ≤ m) → (o : Option Record) → levels_from id down o ≤ suc m
most-from id m down k None = omega arith
most-from id m down k (Some r) = more-most (r.id == id) (down r.place.parent) m (k r.place.parent)

pub levels-most : (k id : ℕ) (rs : List Record) (q : Parent) → levels_to k id rs q ≤ k
unfolding levels_to
levels-most zero id rs Page = omega arith
levels-most zero id rs (Shape p) = omega arith
levels-most (suc k) id rs Page = omega arith
levels-most (suc k) id rs (Shape p) = most-from id k (λ q. levels_to k id rs q) (λ q. levels-most k id rs q) (record_of p rs)

-- a record at each position
pub some-at : (rs : List Record) (i : ℕ) → i < length rs → (r : Record) × (r ≡ get_or rs i r)
some-at [] i h = absurd (omega arith)
some-at (x ∷ rs) zero h = (x, refl)
some-at (x ∷ rs) (suc i) h = some-at rs i (omega arith)
