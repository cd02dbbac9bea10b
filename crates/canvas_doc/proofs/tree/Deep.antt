-- What lies too deep once a shape hangs under another parent, told by the way up from that.
use Rattle.std.proofs.Common.{◌≡◌, ◌∙◌, ℕ, zero, suc, ◌+◌, ◌-◌, ◌<◌, ◌==◌, ◌&&◌, ◌||◌, List, Bool, true, false, cond, Option, Some, None, refl, sym, ap, arith, inl, inr, nat_lt}
use Rattle.std.proofs.lemmas.Bool.{cases_Bool}
use Rattle.canvas_record.specs.declared.records.Parent.{Parent}
use Rattle.canvas_record.specs.declared.records.Parent.TheVariants.{Page, Shape}
use Rattle.canvas_record.specs.declared.records.Record.{Record}
use Rattle.canvas_record.specs.Contents.{Contents, IsWellFormed, record_of, is_container, reaches_page}
use Rattle.canvas_record.specs.Decision.{can_have_children, holds_container, lies_too_deep, parent_after, put_under}
use Rattle.canvas_record.specs.Depth.{depth_of, height_of}
use Rattle.canvas_record.specs.Effect.{is_below, is_below_from}
use Rattle.canvas_doc.proofs.fitting.Fit.{parent-reaches}
use Rattle.canvas_doc.proofs.siblings.Neighbours.{found-contained}
use Rattle.canvas_doc.proofs.tree.DepthAgrees.{deep-agrees}
use Rattle.canvas_doc.proofs.tree.Found.{found-has}
use Rattle.canvas_doc.proofs.tree.Paths.{deep-at, reaches-none, reaches-nowhere_after, reaches-step, reaches-step_after}

-- the shape itself comes to no page from its new parent
deep-own : (rs : List Record) (id : ℕ) (p : Parent) (r : Record) → record_of id rs ≡ Some r → reaches_page 31 (put_under id p rs) p ≡ false → true ≡ lies_too_deep rs id p
deep-own rs id p r e none =
    let there = found-contained id rs r e in
    let under : p ≡ parent_after id p r = sym (ap (λ b. cond b p r.place.parent) (found-has id rs r e)) in
    deep-at rs id p p there.0 r (reaches_page 31 (put_under id p rs) p) there.1 (sym there.2) under refl none

leaf-stuck : (id q : ℕ) (u : Parent) (rs : List Record) (o : Option Record) → record_of q rs ≡ o → holds_container o ≡ false → reaches_page 31 (put_under id u rs) (Shape q) ≡ false
leaf-stuck id q u rs None e h = reaches-nowhere_after 31 id q u rs (omega arith) (sym e)
leaf-stuck id q u rs (Some s) e h = reaches-step_after 31 id q u rs s (omega arith) (sym e) ∙ ap (λ b. b && reaches_page (31 - 1) (put_under id u rs) (parent_after id u s)) h

-- what can have no children leads nowhere
pub deep-leaf : (rs : List Record) (id : ℕ) (p : Parent) (r : Record) → record_of id rs ≡ Some r → can_have_children rs p ≡ false → true ≡ lies_too_deep rs id p
deep-leaf rs id Page r e h = cc
deep-leaf rs id (Shape q) r e h = deep-own rs id (Shape q) r e (leaf-stuck id q (Shape q) rs (record_of q rs) refl h)

leaf-step : (q : ℕ) (rs : List Record) (o : Option Record) → record_of q rs ≡ o → holds_container o ≡ false → reaches_page 31 rs (Shape q) ≡ false
leaf-step q rs None e h = reaches-step 31 q rs None (omega arith) (sym e)
leaf-step q rs (Some s) e h = reaches-step 31 q rs (Some s) (omega arith) (sym e) ∙ ap (λ b. b && reaches_page (31 - 1) rs s.place.parent) h

pub leaf-nowhere : (rs : List Record) (p : Parent) → can_have_children rs p ≡ false → false ≡ reaches_page 31 rs p
leaf-nowhere rs Page h = cc
leaf-nowhere rs (Shape q) h = sym (leaf-step q rs (record_of q rs) refl h)

below-some : (id : ℕ) (up : Parent → Bool) (o : Option Record) → is_below_from id up o ≡ true → (r : Record) × (o ≡ Some r) × (((r.id == id) || up r.place.parent) ≡ true)
below-some id up None h = cc
below-some id up (Some r) h = (r, refl, h)

and-none : (b : Bool) → (b && false) ≡ false
and-none true = refl
and-none false = refl

-- a way that comes to the shape goes on from its new parent
round : (n m id : ℕ) (u : Parent) (rs : List Record) (q : Parent) → ((k : ℕ) → k < n → reaches_page k (put_under id u rs) u ≡ false) → is_below m id rs q ≡ true → reaches_page n (put_under id u rs) q ≡ false
unfolding is_below
round n zero id u rs Page k h = cc
round n zero id u rs (Shape p) k h = cc
round n (suc m) id u rs Page k h = cc
round zero (suc m) id u rs (Shape p) k h = reaches-none 0 p (put_under id u rs) refl
round (suc n) (suc m) id u rs (Shape p) k h =
    let s = below-some id (λ q. is_below m id rs q) (record_of p rs) h in
    let less : suc n - 1 ≡ n = omega arith in
    let far : Bool = is_container s.0.kind in
    let next : reaches_page n (put_under id u rs) (parent_after id u s.0) ≡ false = elim (cases_Bool (s.0.id == id)) [
      | inl t ↦ ap (λ c. reaches_page n (put_under id u rs) (cond c u s.0.place.parent)) t ∙ k n (omega arith)
      | inr f ↦ (
          let up : is_below m id rs s.0.place.parent ≡ true = sym (ap (λ b. b || is_below m id rs s.0.place.parent) f) ∙ s.2 in
          ap (λ c. reaches_page n (put_under id u rs) (cond c u s.0.place.parent)) f
          ∙ round n m id u rs s.0.place.parent (λ j l. k j (omega (arith, l))) up)
    ] in
    reaches-step_after (suc n) id p u rs s.0 (omega arith) (sym s.1)
    ∙ ap (λ j. far && reaches_page j (put_under id u rs) (parent_after id u s.0)) less
    ∙ ap (λ b. far && b) next
    ∙ and-none far

all-round : (n k id : ℕ) (u : Parent) (rs : List Record) → is_below 32 id rs u ≡ true → k < n → reaches_page k (put_under id u rs) u ≡ false
all-round zero k id u rs h l = absurd (omega arith)
all-round (suc n) k id u rs h l = round k 32 id u rs u (λ j s. all-round n j id u rs h (omega (arith, s, l))) h

-- what hangs under itself leads nowhere
pub deep-cycle : (rs : List Record) (id : ℕ) (p : Parent) (r : Record) → record_of id rs ≡ Some r → is_below 32 id rs p ≡ true → true ≡ lies_too_deep rs id p
deep-cycle rs id p r e h = deep-own rs id p r e (all-round 32 31 id p rs h (omega arith))

-- else depth and height tell
pub deep-is : (d : Contents) → IsWellFormed d → (id : ℕ) (p : Parent) (n h : ℕ) → can_have_children d.records p ≡ true → is_below 32 id d.records p ≡ false → n ≡ depth_of 32 d.records p → h ≡ height_of id d.records → nat_lt 32 (n + h) ≡ lies_too_deep d.records id p
deep-is d w id p n h holds apart e f =
    ap (λ m. nat_lt 32 (m + h)) e ∙ ap (λ m. nat_lt 32 (depth_of 32 d.records p + m)) f ∙ sym (deep-agrees d w id p (parent-reaches d w p holds) apart)
