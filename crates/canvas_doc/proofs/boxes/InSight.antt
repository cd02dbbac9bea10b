-- Children that are passed over where they cannot show.
use Rattle.std.proofs.Common.{◌≡◌, ℕ, ◌+◌, ◌-◌, ◌<◌, ◌≤◌, List, [], ◌∷◌, ◌++◌, true, All, length, get_or, drop, take, ℤ, pos, ◌+ℤ◌, ◌&&◌, int_le, int_lt, Some, None, refl, sym, subst, ap, ◌∙◌, inl, inr, arith}
use Rattle.std.specs.List.{Contains, slice_get}
use Rattle.std.proofs.lemmas.Int.{ints}
use Rattle.std.proofs.lemmas.List.Elements.{All-cons, All-contains, All-head, All-nil, All-tail}
use Rattle.std.proofs.lemmas.Option.{get_or_from_slice_get, slice_get_read, slice_get_within}
use Rattle.canvas_plane.specs.declared.PageBox.{PageBox}
use Rattle.canvas_plane.specs.declared.Pose.{Pose}
use Rattle.canvas_plane.specs.Motion.{carry}
use Rattle.canvas_plane.specs.Page.{is_in}
use Rattle.canvas_doc.specs.declared.bounds.Bounds.{Bounds}
use Rattle.canvas_doc.specs.declared.placed_shapes.PlacedShape.{PlacedShape}
use Rattle.canvas_record.specs.declared.records.Parent.{Parent}
use Rattle.canvas_record.specs.declared.records.Record.{Record}
use Rattle.canvas_doc.specs.Bounds.{HoldsClip, LieApart}
use Rattle.canvas_record.specs.Children.{children, IsPartOf}
use Rattle.canvas_record.specs.Contents.{Contents}
use Rattle.canvas_record.specs.Picture.{answer_of, first_answer}
use Rattle.canvas_doc.specs.Placements.{Placements, placements_of}
use Rattle.canvas_doc.specs.PlaceOrder.{AreChildrenWithin, IsInPlaceOrder, IsKeptInOrder}
use Rattle.canvas_record.specs.Tree.{IsInLimits}
use Rattle.canvas_doc.proofs.places.ChildrenInOrder.{all-in_order, children-are, one-more}
use Rattle.canvas_doc.proofs.boxes.Culled.{answers-pass, answers-push, apart-none, StandIn}
use Rattle.canvas_doc.proofs.editing.Placements.{bounds-at, long, long-bounds, shape-at}

-- ---- parts of lists

-- one more of both, behind the others
part-push : {A : Type 0} (part whole : List A) (a : A) → IsPartOf part whole → IsPartOf (part ++ a ∷ []) (whole ++ a ∷ [])
part-push [] [] a h = inl (refl, tt)
part-push [] (w ∷ whole) a h = inr (part-push [] whole a tt)
part-push (p ∷ part) [] a h = absurd h
part-push (p ∷ part) (w ∷ whole) a (inl h) = inl (h.0, part-push part whole a h.1)
part-push (p ∷ part) (w ∷ whole) a (inr h) = inr (part-push (p ∷ part) whole a h)

-- one more that is left out, behind the others
part-pass : {A : Type 0} (part whole : List A) (a : A) → IsPartOf part whole → IsPartOf part (whole ++ a ∷ [])
part-pass [] whole a h = tt
part-pass (p ∷ part) [] a h = absurd h
part-pass (p ∷ part) (w ∷ whole) a (inl h) = inl (h.0, part-pass part whole a h.1)
part-pass (p ∷ part) (w ∷ whole) a (inr h) = inr (part-pass (p ∷ part) whole a h)

-- what holds of all of a list holds of its parts
pub part-all : {A : Type 0} (P : A → Type 0) (part whole : List A) → All P whole → IsPartOf part whole → All P part
part-all P [] whole h k = All-nil P
part-all P (p ∷ part) [] h k = absurd k
part-all P (p ∷ part) (w ∷ whole) h (inl k) = All-cons P p part (subst P (sym k.0) (All-head P w whole h)) (part-all P part whole (All-tail P w whole h) k.1)
part-all P (p ∷ part) (w ∷ whole) h (inr k) = part-all P (p ∷ part) whole (All-tail P w whole h) k

-- ---- records that a walk keeps

-- some of the records, which answer as all of them within a box of the page
pub record AreInSight (rs : List Record) (out : Pose) (clip : PageBox) (seen all : List Record) : Type 0 where
  pub part : IsPartOf seen all
  pub answers : (levels : ℕ) (x y : ℤ) → is_in clip x y ≡ true → first_answer (answer_of levels rs (carry out) x y) seen ≡ first_answer (answer_of levels rs (carry out) x y) all

-- a record answers nothing within a box of the page
pub record IsOutOfSight (rs : List Record) (out : Pose) (clip : PageBox) (r : Record) : Type 0 where
  pub none : (levels : ℕ) (x y : ℤ) → is_in clip x y ≡ true → answer_of levels rs (carry out) x y r ≡ None

module _ (rs : List Record) (out : Pose) (clip : PageBox) where
  pub none-seen : AreInSight rs out clip [] []
  none-seen = record { part = tt; answers = λ levels x y h. refl }

  pub one-seen : (seen all : List Record) (r : Record) → AreInSight rs out clip seen all → AreInSight rs out clip (seen ++ r ∷ []) (all ++ r ∷ [])
  one-seen seen all r h = record {
    part = part-push seen all r h.part;
    answers = λ levels x y inside. answers-push (answer_of levels rs (carry out) x y) seen all r (h.answers levels x y inside);
  }

  pub one-passed : (seen all : List Record) (r : Record) → IsOutOfSight rs out clip r → AreInSight rs out clip seen all → AreInSight rs out clip seen (all ++ r ∷ [])
  one-passed seen all r none h = record {
    part = part-pass seen all r h.part;
    answers = λ levels x y inside. answers-pass (answer_of levels rs (carry out) x y) seen all r (none.none levels x y inside) (h.answers levels x y inside);
  }

-- ---- what a document keeps

-- each record has its place in the order
stand-in : (order rs : List Record) → IsInPlaceOrder order rs → StandIn rs order
stand-in order rs o = record {
  at = λ r c.
      let there : Contains order r = All-contains (Contains order) rs r o.complete c in
      (there.0, slice_get_read order (length order) there.0 r refl there.1 (sym there.2));
}

-- a record whose bounds lie apart from what a box of the page shows
pub out-of-sight : (d : Contents) (order : List Record) (bounds : List Bounds) → IsKeptInOrder d order bounds → (out : Pose) (clip : PageBox) (area b : Bounds) (at : ℕ) (r : Record)
    → out.quarter ≤ 3 → HoldsClip out clip area → slice_get order at ≡ Some r → slice_get bounds at ≡ Some b → LieApart b area → IsOutOfSight d.records out clip r
out-of-sight d order bounds kept out clip area b at r quarter clipped er eb apart =
    let rs : List Record = d.records in
    let limits : IsInLimits (get_or order at r) = all-in_order IsInLimits order rs kept.in_order kept.well_formed.limits at r (slice_get_within order at r er) in
    let own : IsInLimits r = subst IsInLimits (get_or_from_slice_get order at r r er) limits in
    record {
      none = λ levels x y inside.
          apart-none rs order bounds kept.bounded (stand-in order rs kept.in_order) kept.well_formed.limits levels r b area out x y
          (record { at = at; shape = er; box = eb; quarter = own.quarter }) apart quarter (clipped.holds x y inside);
    }

-- ---- going over the children of a parent

-- a walk has come to the record of a position, with its bounds
pub record StandsThere (order : List Record) (bounds : List Bounds) (start at : ℕ) (r : Record) (b : Bounds) : Type 0 where
  pub shape : slice_get order at ≡ Some r
  pub box : slice_get bounds at ≡ Some b
  pub more : take (at + 1 - start) (drop start order) ≡ take (at - start) (drop start order) ++ r ∷ []

pub stands-there : (all read : List PlacedShape) (p : Placements) (start at : ℕ) (x : PlacedShape) → placements_of all ≡ p → read ≡ all → start ≤ at → at < length p.shapes → x ≡ get_or read at x
    → StandsThere p.shapes p.bounds start at x.shape x.bounds
stands-there all read p start at x is same from within e =
    let here : x ≡ get_or all at x = e ∙ ap (λ l. get_or l at x) same in
    let long : length p.bounds ≡ length p.shapes = long-bounds all p is in
    let shape : x.shape ≡ get_or p.shapes at x.shape = shape-at all p is at x here in
    record {
      shape = slice_get_read p.shapes (length p.shapes) at x.shape refl within shape;
      box = slice_get_read p.bounds (length p.bounds) at x.bounds refl (omega arith) (bounds-at all p is at x here);
      more = one-more p.shapes start at x.shape x.shape from within shape;
    }

-- a walk that has come to its end has gone over all children
pub children-in_sight : (d now : Contents) (order : List Record) (bounds : List Bounds) → IsKeptInOrder d order bounds → d ≡ now → (p : Parent) (out : Pose) (clip : PageBox) (seen : List Record) (start at end : ℕ)
    → AreChildrenWithin p order start end → at ≡ end → AreInSight now.records out clip seen (take (at - start) (drop start order)) → AreInSight now.records out clip seen (children p now.records)
children-in_sight d now order bounds kept view p out clip seen start at end w done h =
    let all : take (at - start) (drop start order) ≡ children p now.records =
    ap (λ n. take (n - start) (drop start order)) done ∙ w.are ∙ children-are p order d.records kept.well_formed.places kept.in_order ∙ ap (λ (c : Contents). children p c.records) view in
    subst (λ l. AreInSight now.records out clip seen l) all h

-- ---- one pixel

side-has : (x : ℤ) → (int_le x x && int_lt x (x +ℤ pos 1)) ≡ true
side-has x = grind (arith, ints)

-- the box of one pixel has it
pub pixel-held : (sides : PageBox) (x y : ℤ) → sides ≡ record { left = x; top = y; right = x +ℤ pos 1; bottom = y +ℤ pos 1 } → is_in sides x y ≡ true
pixel-held sides x y e =
    ap (λ (s : PageBox). is_in s x y) e
    ∙ ap (λ b. b && (int_le y y && int_lt y (y +ℤ pos 1))) (side-has x)
    ∙ side-has y

-- ---- positions of an order, in what a reader of it reads

module _ (reader read : List PlacedShape) (p : Placements) (all : placements_of reader ≡ p) (same : read ≡ reader) where
  pub read-upto : (n : ℕ) → n ≤ length p.shapes → n ≤ length read
  read-upto n bound = omega (arith, ap length same, long reader p all)

  pub read-below : (at n : ℕ) → at < n → n ≤ length p.shapes → at < length read
  read-below at n before bound = omega (arith, ap length same, long reader p all)
