-- Records side by side that a walk passes over.
use Rattle.std.proofs.Common.{◌≡◌, ℕ, zero, suc, ◌+◌, ◌-◌, ◌<◌, ◌≤◌, ◌∷◌, ◌++◌, [], List, Option, Some, true, false, ap, arith, drop, get_or, length, refl, subst, sym, take, ℤ}
use Rattle.std.specs.List.{slice_get}
use Rattle.std.specs.Option.{is_some}
use Rattle.std.proofs.lemmas.List.{get_or_default}
use Rattle.std.proofs.lemmas.Option.{slice_get_read}
use Rattle.canvas_plane.specs.declared.PageBox.{PageBox}
use Rattle.canvas_plane.specs.declared.Pose.{Pose}
use Rattle.canvas_plane.specs.Motion.{carry}
use Rattle.canvas_plane.specs.Page.{is_in}
use Rattle.canvas_shape.specs.declared.Colour.{Colour}
use Rattle.canvas_list.specs.Chunks.{AllBetween}
use Rattle.canvas_doc.specs.declared.placed_shapes.PlacedShape.{PlacedShape}
use Rattle.canvas_record.specs.declared.records.Record.{Record}
use Rattle.canvas_doc.specs.declared.coverage.Coverage.{Coverage}
use Rattle.canvas_doc.specs.Bounds.{HoldsClip, LieApart}
use Rattle.canvas_doc.specs.Coverage.{IsCovered}
use Rattle.canvas_record.specs.Contents.{Contents}
use Rattle.canvas_record.specs.Picture.{answer_of, first_answer}
use Rattle.canvas_doc.specs.Placements.{Placements, placements_of}
use Rattle.canvas_doc.specs.PlaceOrder.{IsKeptInOrder}
use Rattle.canvas_doc.proofs.places.ChildrenInOrder.{first-and-rest, one-more}
use Rattle.canvas_doc.proofs.boxes.InSight.{AreInSight, IsOutOfSight, one-passed, out-of-sight}
use Rattle.canvas_doc.proofs.editing.Placements.{bounds-at, long, long-bounds, some-in}
use Rattle.canvas_record.proofs.Walk.{silent-rest}

-- records from a position on, all out of sight
many-passed : (rs : List Record) (out : Pose) (clip : PageBox) (order seen : List Record) (start from n : ℕ) → start ≤ from → from + n ≤ length order
    → ((i : ℕ) (r : Record) → from ≤ i → i < from + n → slice_get order i ≡ Some r → IsOutOfSight rs out clip r)
    → AreInSight rs out clip seen (take (from - start) (drop start order)) → AreInSight rs out clip seen (take (from + n - start) (drop start order))
many-passed rs out clip order seen start from zero low within none h =
    let same : from ≡ from + 0 = omega arith in
    subst (λ (m : ℕ). AreInSight rs out clip seen (take (m - start) (drop start order))) same h
many-passed rs out clip order seen start from (suc n) low within none h =
    let at : ℕ = from + n in
    let here : at < length order = omega arith in
    let x : Record = some-in order at here in
    let r : Record = get_or order at x in
    let reads : r ≡ get_or order at r = get_or_default order at x r here in
    let before : AreInSight rs out clip seen (take (at - start) (drop start order)) = many-passed rs out clip order seen start from n low (omega arith) (λ i s l b e. none i s l (omega arith) e) h in
    let gone : IsOutOfSight rs out clip r = none at r (omega arith) (omega arith) (slice_get_read order (length order) at r refl here reads) in
    let more : take (at + 1 - start) (drop start order) ≡ take (at - start) (drop start order) ++ r ∷ [] = one-more order start at r r (omega arith) here reads in
    let next : at + 1 ≡ from + suc n = omega arith in
    subst (λ (m : ℕ). AreInSight rs out clip seen (take (m - start) (drop start order))) next
    (subst (AreInSight rs out clip seen) (sym more) (one-passed rs out clip seen (take (at - start) (drop start order)) r gone before))

-- records from a position on, all silent
many-silent : (f : Record → Option Colour) (order : List Record) (end from n : ℕ) → from + n ≤ end → end ≤ length order
    → ((i : ℕ) (r : Record) → from ≤ i → i < from + n → slice_get order i ≡ Some r → is_some (f r) ≡ false)
    → first_answer f (take (end - (from + n)) (drop (from + n) order)) ≡ first_answer f (take (end - from) (drop from order))
many-silent f order end from zero low within silent =
    let same : from ≡ from + 0 = omega arith in
    subst (λ (m : ℕ). first_answer f (take (end - m) (drop m order)) ≡ first_answer f (take (end - from) (drop from order))) same refl
many-silent f order end from (suc n) low within silent =
    let at : ℕ = from + n in
    let here : at < length order = omega arith in
    let x : Record = some-in order at here in
    let r : Record = get_or order at x in
    let reads : r ≡ get_or order at r = get_or_default order at x r here in
    let before : first_answer f (take (end - at) (drop at order)) ≡ first_answer f (take (end - from) (drop from order)) = many-silent f order end from n (omega arith) within (λ i s l b e. silent i s l (omega arith) e) in
    let none : is_some (f r) ≡ false = silent at r (omega arith) (omega arith) (slice_get_read order (length order) at r refl here reads) in
    let next : at + 1 ≡ from + suc n = omega arith in
    subst (λ (m : ℕ). first_answer f (take (end - m) (drop m order)) ≡ first_answer f (take (end - from) (drop from order))) next
    (silent-rest f r (take (end - (at + 1)) (drop (at + 1) order)) (take (end - at) (drop at order)) (take (end - from) (drop from order)) (first-and-rest order at end r r (omega arith) within reads) none before)

module _ (d : Contents) (all read : List PlacedShape) (p : Placements) (is : placements_of all ≡ p) (same : read ≡ all) (kept : IsKeptInOrder d p.shapes p.bounds) (out : Pose) (clip : PageBox) (area : Coverage) (covered : IsCovered area.bounds area) (quarter : out.quarter ≤ 3) (clipped : HoldsClip out clip area.bounds) (from to : ℕ) (order : from ≤ to) (within : to ≤ length p.shapes) (apart : AllBetween (λ placed. IsCovered area.bounds area → LieApart placed.bounds area.bounds) read from to) where
  -- a record between, whose bounds lie apart from what the walk seeks
  passed-at : (i : ℕ) (r : Record) → from ≤ i → i < to → slice_get p.shapes i ≡ Some r → IsOutOfSight d.records out clip r
  passed-at i r low high e =
      let here : i < length all = omega (arith, long all p is) in
      let x : PlacedShape = some-in all i here in
      let y : PlacedShape = get_or all i x in
      let reads : y ≡ get_or all i y = get_or_default all i x y here in
      let far : LieApart y.bounds area.bounds = subst (λ (l : List PlacedShape). LieApart (get_or l i x).bounds area.bounds) same (apart i x low high covered) in
      let box : slice_get p.bounds i ≡ Some y.bounds = slice_get_read p.bounds (length p.bounds) i y.bounds refl (omega (arith, long-bounds all p is)) (bounds-at all p is i y reads) in
      out-of-sight d p.shapes p.bounds kept out clip area.bounds y.bounds i r quarter clipped e box far

  -- what is seen stays in sight as the walk goes on
  pub sight-kept : (seen : List Record) (start : ℕ) → start ≤ from → AreInSight d.records out clip seen (take (from - start) (drop start p.shapes)) → AreInSight d.records out clip seen (take (to - start) (drop start p.shapes))
  sight-kept seen start low h =
      let there : from + (to - from) ≡ to = omega arith in
      subst (λ (m : ℕ). AreInSight d.records out clip seen (take (m - start) (drop start p.shapes))) there
      (many-passed d.records out clip p.shapes seen start from (to - from) low (omega arith) (λ i r l b e. passed-at i r l (omega arith) e) h)

  -- and the first answer at a point stays the same
  pub answer-kept : (levels : ℕ) (x y : ℤ) (end : ℕ) → is_in clip x y ≡ true → to ≤ end → end ≤ length p.shapes
      → first_answer (answer_of levels d.records (carry out) x y) (take (end - to) (drop to p.shapes)) ≡ first_answer (answer_of levels d.records (carry out) x y) (take (end - from) (drop from p.shapes))
  answer-kept levels x y end inside last long_enough =
      let f : Record → Option Colour = answer_of levels d.records (carry out) x y in
      let there : from + (to - from) ≡ to = omega arith in
      subst (λ (m : ℕ). first_answer f (take (end - m) (drop m p.shapes)) ≡ first_answer f (take (end - from) (drop from p.shapes))) there
      (many-silent f p.shapes end from (to - from) (omega arith) long_enough (λ i r l b e. ap is_some ((passed-at i r l (omega arith) e).none levels x y inside)))
