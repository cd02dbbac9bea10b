-- What boxes with columns and rows cover.
use Rattle.std.proofs.Common.{◌≡◌, ℕ, Bool, true, false, ◌&&◌, ◌||◌, ℤ, ◌<ℤ◌, sym, ◌∙◌, refl, arith}
use Rattle.std.specs.Prelude.{int_le}
use Rattle.std.proofs.lemmas.Bool.{true≢false, false_from_ne_true}
use Rattle.std.proofs.lemmas.Int.{ints}
use Rattle.canvas_plane.specs.declared.Pose.{Pose}
use Rattle.canvas_plane.specs.Motion.{carry}
use Rattle.canvas_shape.specs.Words.{has}
use Rattle.canvas_doc.specs.declared.bounds.Bounds.{Bounds}
use Rattle.canvas_doc.specs.Bounds.{holds_on_page, IsWithinBounds, LieApart}
use Rattle.canvas_doc.specs.Edges.{AreEdges}
use Rattle.canvas_doc.specs.Slabs.{HasSlabs}
use Rattle.canvas_doc.specs.Coverage.{IsCovered}
use Rattle.canvas_doc.specs.declared.coverage.Coverage.{Coverage}
use Rattle.canvas_doc.proofs.boxes.BoundsLaws.{on-page}
use Rattle.canvas_doc.proofs.boxes.EdgeLaws.{common-overlap, empty-none, holds, numbers, Overlap}
use Rattle.canvas_doc.proofs.boxes.SlabLaws.{no-overlap}
use Rattle.canvas_doc.proofs.extents.Pulled.{pulled}

-- a box that lies apart from one lies apart from what that holds
pub apart-within : (a b c : Bounds) → IsWithinBounds a b → LieApart b c → LieApart a c
apart-within a b c h k = record { none = λ out x y q t. k.none out x y q (h.holds out x y q t) }

-- a word that has all bits of another has its slabs
pub more-slabs : (from to : ℤ) (w v : ℕ) → HasSlabs from to w → ((i : ℕ) → has w i ≡ true → has v i ≡ true) → HasSlabs from to v
more-slabs from to w v h more = record { bits = λ n low high. more _ (h.bits n low high) }

lt-known : (a b : ℤ) → int_le b a ≡ false → a <ℤ b
lt-known a b h = grind (arith, ints)

first-false : (p q : Bool) → (p || q) ≡ false → p ≡ false
first-false false q e = refl
first-false true q e = cc

second-false : (p q : Bool) → (p || q) ≡ false → q ≡ false
second-false false q e = e
second-false true q e = cc

-- edges between which a pixel lies are no empty ones
some-between : (l t r b u v : ℤ) → AreEdges l t r b → holds l t r b u v ≡ true → (int_le r l || int_le b t) ≡ false
some-between l t r b u v e h = false_from_ne_true (int_le r l || int_le b t) (λ empty. true≢false (sym h ∙ empty-none l t r b u v e empty))

module _ (a b : Bounds) (out : Pose) (x y : ℤ) (t : holds_on_page (carry out) a x y ≡ true) (s : holds_on_page (carry out) b x y ≡ true) where
  first-some : (int_le a.right a.left || int_le a.bottom a.top) ≡ false
  first-some = some-between a.left a.top a.right a.bottom (pulled out x y).u (pulled out x y).v a.edges (sym (on-page out a x y) ∙ t)

  second-some : (int_le b.right b.left || int_le b.bottom b.top) ≡ false
  second-some = some-between b.left b.top b.right b.bottom (pulled out x y).u (pulled out x y).v b.edges (sym (on-page out b x y) ∙ s)

  overlap : Overlap a.left a.top a.right a.bottom b.left b.top b.right b.bottom
  overlap = common-overlap a.left a.top a.right a.bottom b.left b.top b.right b.bottom (pulled out x y).u (pulled out x y).v a.edges b.edges (sym (on-page out a x y) ∙ t) (sym (on-page out b x y) ∙ s)

  -- a pixel in both lies in a column that both lie in
  in-columns : (w v : ℕ) → HasSlabs a.left a.right w → HasSlabs b.left b.right v → ((i : ℕ) → has w i ≡ true → has v i ≡ false) → ⊥
  in-columns w v h k none =
      no-overlap a.left a.right b.left b.right w v (numbers a.left a.top a.right a.bottom a.edges).left (numbers b.left b.top b.right b.bottom b.edges).left
      (lt-known a.left a.right (first-false (int_le a.right a.left) (int_le a.bottom a.top) first-some))
      (lt-known b.left b.right (first-false (int_le b.right b.left) (int_le b.bottom b.top) second-some))
      h k none overlap.across

  -- and in such a row
  in-rows : (w v : ℕ) → HasSlabs a.top a.bottom w → HasSlabs b.top b.bottom v → ((i : ℕ) → has w i ≡ true → has v i ≡ false) → ⊥
  in-rows w v h k none =
      no-overlap a.top a.bottom b.top b.bottom w v (numbers a.left a.top a.right a.bottom a.edges).top (numbers b.left b.top b.right b.bottom b.edges).top
      (lt-known a.top a.bottom (second-false (int_le a.right a.left) (int_le a.bottom a.top) first-some))
      (lt-known b.top b.bottom (second-false (int_le b.right b.left) (int_le b.bottom b.top) second-some))
      h k none overlap.down

-- bounds that share no column lie apart
pub apart-by-columns : (a b : Bounds) (w v : ℕ) → HasSlabs a.left a.right w → HasSlabs b.left b.right v → ((i : ℕ) → has w i ≡ true → has v i ≡ false) → LieApart a b
apart-by-columns a b w v h k none = record {
  none = λ out x y q t. false_from_ne_true (holds_on_page (carry out) b x y) (λ s. in-columns a b out x y t s w v h k none);
}

-- and those that share no row
pub apart-by-rows : (a b : Bounds) (w v : ℕ) → HasSlabs a.top a.bottom w → HasSlabs b.top b.bottom v → ((i : ℕ) → has w i ≡ true → has v i ≡ false) → LieApart a b
apart-by-rows a b w v h k none = record {
  none = λ out x y q t. false_from_ne_true (holds_on_page (carry out) b x y) (λ s. in-rows a b out x y t s w v h k none);
}

-- bounds in a box, and in slabs that a word has all of
pub covered-by : (b : Bounds) (c : Coverage) (p q r : Bool) (w v : ℕ) → (p ≡ true → IsWithinBounds b c.bounds) → HasSlabs b.left b.right w → (q ≡ true → (i : ℕ) → has w i ≡ true → has c.columns i ≡ true)
    → HasSlabs b.top b.bottom v → (r ≡ true → (i : ℕ) → has v i ≡ true → has c.rows i ≡ true) → ((p && q) && r) ≡ true → IsCovered b c
covered-by b c true true true w v within h columns k rows e = record { box = within refl; columns = more-slabs b.left b.right w c.columns h (columns refl); rows = more-slabs b.top b.bottom v c.rows k (rows refl) }
covered-by b c false q r w v within h columns k rows e = cc
covered-by b c true false r w v within h columns k rows e = cc
covered-by b c true true false w v within h columns k rows e = cc

-- what is covered lies apart from an area that lies apart from the box, or shares no column or no row
pub apart-covered : (b : Bounds) (c a : Coverage) (p q r : Bool) → (p ≡ false → LieApart c.bounds a.bounds) → (q ≡ false → (i : ℕ) → has c.columns i ≡ true → has a.columns i ≡ false) → (r ≡ false → (i : ℕ) → has c.rows i ≡ true → has a.rows i ≡ false)
    → ((p && q) && r) ≡ false → IsCovered b c → IsCovered a.bounds a → LieApart b a.bounds
apart-covered b c a false q r box columns rows e h k = apart-within b c.bounds a.bounds h.box (box refl)
apart-covered b c a true false r box columns rows e h k = apart-by-columns b a.bounds c.columns a.columns h.columns k.columns (columns refl)
apart-covered b c a true true false box columns rows e h k = apart-by-rows b a.bounds c.rows a.rows h.rows k.rows (rows refl)
apart-covered b c a true true true box columns rows e h k = cc
