-- Lists that are filled item by item, and records by place that are made of them.
use Rattle.std.proofs.Common.{◌≡◌, ◌∙◌, ◌⊎◌, inl, inr, ◌++◌, [], ◌∷◌, ℕ, List, Ok, Err, IfOk, Result, ap, append-nil, append_assoc, arith, length, map, subst, sym, take}
use Rattle.std.proofs.lemmas.List.{length-append, length-map, map-append, nil_from_length, take-append-le, take_all}
use Rattle.std.proofs.lemmas.Result.{IfOk-weaker}
use Rattle.canvas_doc.specs.declared.bounds.Bounds.{Bounds}
use Rattle.canvas_record.specs.declared.records.Record.{Record}
use Rattle.canvas_doc.specs.Bounds.{AreBounds}
use Rattle.canvas_doc.specs.declared.placed_shapes.PlacedShape.{PlacedShape}
use Rattle.canvas_doc.specs.Placements.{Placements, placements_of}
use Rattle.canvas_doc.proofs.editing.Placements.{bounds_of, shape_of}

-- one more goes from what is to come to those that there are
pub moved-on : (all pushed before behind whole : List Record) (r s : Record) → pushed ≡ all ++ r ∷ [] → r ≡ s → before ≡ s ∷ behind → all ++ before ≡ whole → pushed ++ behind ≡ whole
moved-on all pushed before behind whole r s p is next h =
    ap (λ (l : List Record). l ++ behind) (p ∙ ap (λ (x : Record). all ++ x ∷ []) is) ∙ append_assoc all (s ∷ []) behind ∙ ap (λ (l : List Record). all ++ l) (sym next) ∙ h

-- the same of what each of them holds
pub one-more : {X Y : Type 0} (f : X → Y) (all pushed : List X) (x : X) (y : Y) (before behind whole : List Y) → f x ≡ y → pushed ≡ all ++ x ∷ [] → before ≡ y ∷ behind → map f all ++ before ≡ whole → map f pushed ++ behind ≡ whole
one-more {X} {Y} f all pushed x y before behind whole is p next h =
    ap (λ (l : List X). map f l ++ behind) p
    ∙ ap (λ (l : List Y). l ++ behind) (map-append f all (x ∷ []))
    ∙ append_assoc (map f all) (f x ∷ []) behind
    ∙ ap (λ (z : Y). map f all ++ z ∷ behind) is
    ∙ ap (λ (l : List Y). map f all ++ l) (sym next)
    ∙ h

-- none are to come of two lists of one length where none are to come of one of them
module _ (all : List PlacedShape) (shapes rest : List Record) (bounds boxes : List Bounds) (e : map shape_of all ++ rest ≡ shapes) (f : map bounds_of all ++ boxes ≡ bounds) (long : length bounds ≡ length shapes) where
  as-many : length boxes ≡ length rest
  as-many = omega (arith, long, ap length e, ap length f, length-append (map shape_of all) rest, length-append (map bounds_of all) boxes, length-map all shape_of, length-map all bounds_of)

  both : length rest ≡ 0 → length boxes ≡ 0 → (map shape_of all ≡ shapes) × (map bounds_of all ≡ bounds)
  both none empty = (
    sym (append-nil (map shape_of all)) ∙ ap (λ (l : List Record). map shape_of all ++ l) (sym (nil_from_length rest none)) ∙ e,
    sym (append-nil (map bounds_of all)) ∙ ap (λ (l : List Bounds). map bounds_of all ++ l) (sym (nil_from_length boxes empty)) ∙ f,
  )

  pub none-behind : (length rest ≡ 0) ⊎ (length boxes ≡ 0) → (map shape_of all ≡ shapes) × (map bounds_of all ≡ bounds)
  none-behind (inl none) = both none (as-many ∙ none)
  none-behind (inr none) = both (sym as-many ∙ none) none

-- records by place, if there was memory for them
module _ {E : Type 0} (made : Result Placements E) where
  pub shapes-if : (list : List PlacedShape) (shapes : List Record) → map shape_of list ≡ shapes → IfOk made (λ all. all ≡ placements_of list) → IfOk made (λ all. all.shapes ≡ shapes)
  shapes-if list shapes e = IfOk-weaker made (λ (all : Placements). all ≡ placements_of list) (λ (all : Placements). all.shapes ≡ shapes) (λ all is. ap (λ (p : Placements). p.shapes) is ∙ e)

  pub bounds-if : (list : List PlacedShape) (bounds : List Bounds) → map bounds_of list ≡ bounds → IfOk made (λ all. all ≡ placements_of list) → IfOk made (λ all. all.bounds ≡ bounds)
  bounds-if list bounds e = IfOk-weaker made (λ (all : Placements). all ≡ placements_of list) (λ (all : Placements). all.bounds ≡ bounds) (λ all is. ap (λ (p : Placements). p.bounds) is ∙ e)

  pub bounded-if : (shapes : List Record) (bounds : List Bounds) → IfOk made (λ all. all.shapes ≡ shapes) → IfOk made (λ all. all.bounds ≡ bounds) → AreBounds shapes bounds → IfOk made (λ all. AreBounds all.shapes all.bounds)
  bounded-if shapes bounds e f h = both-if made e f where
    both-if : (r : Result Placements E) → IfOk r (λ all. all.shapes ≡ shapes) → IfOk r (λ all. all.bounds ≡ bounds) → IfOk r (λ all. AreBounds all.shapes all.bounds)
    both-if (Ok all) e f = subst (λ (l : List Record). AreBounds l all.bounds) (sym e) (subst (AreBounds shapes) (sym f) h)
    both-if (Err why) e f = tt

-- bounds that were written over those of a list, which has as many
pub bounds-written : (shapes seen : List Record) (new whole : List Bounds) (n : ℕ) (rest : List Bounds) → seen ≡ shapes → whole ≡ take n (new ++ rest) → n ≡ length shapes → AreBounds seen new → AreBounds shapes whole
bounds-written shapes seen new whole n rest e f is h =
    let long : length new ≡ length shapes = h.long ∙ ap length e in
    let kept : whole ≡ new = f ∙ take-append-le n new rest (omega (arith, is, long)) ∙ take_all n new (omega (arith, is, long)) in
    subst (λ (l : List Record). AreBounds l whole) e (subst (AreBounds seen) (sym kept) h)
