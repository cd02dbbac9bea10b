use Rattle.std.proofs.Common.{◌≡◌, ◌<◌, ◌≤◌, ◌+◌, ◌-◌, ◌∙◌, ◌++◌, ◌∷◌, [], ℕ, List, true, ap, arith, drop, filter, get_or, length, map, refl, subst, sym, take}
use Rattle.std.proofs.lemmas.List.{get_or-drop, get_or-take, length-drop, length-take-le, map-append}
use Rattle.canvas_doc.specs.declared.bounds.Bounds.{Bounds}
use Rattle.canvas_doc.specs.declared.placed_shapes.PlacedShape.{PlacedShape}
use Rattle.canvas_record.specs.declared.records.Parent.{Parent}
use Rattle.canvas_record.specs.declared.records.Record.{Record}
use Rattle.canvas_record.specs.Children.{is_child}
use Rattle.canvas_record.specs.Effect.{rank_of, respaced}
use Rattle.canvas_doc.specs.Placements.{placements_of}
use Rattle.canvas_doc.proofs.places.ChildrenInOrder.{one-more}
use Rattle.canvas_doc.proofs.boxes.InSight.{read-below}
use Rattle.canvas_doc.proofs.editing.Placements.{bounds-at, bounds_of, long-bounds, shape-at, shape_of}
use Rattle.canvas_doc.proofs.spacing.Spaced.{all-passing, rank-at, respaced-child}
use Rattle.canvas_doc.proofs.new_indexes.respaced_children.Goals as goal

pub loop-at-preserved : goal.loop-at-preserved
loop-at-preserved c =
    let p : Parent = c.args.parent in
    let order : List Record = c.args.order.now.shapes in
    let start : ℕ = c.args.start in
    let end : ℕ = c.args.end in
    let at : ℕ = c.loop-at.at in
    let i : ℕ = at - start in
    let cs : List Record = filter (is_child p) order in
    let v : Record = c.value.result.now in
    let bound : end ≤ length order = c.requires.children.bound in
    let before : at < end = c.loop-at-test.true in
    let from : start ≤ at = c.loop-at.auto.at in
    let within : at < length order = omega arith in
    let x : PlacedShape = c.at-placed.result.now in
    let is : x ≡ get_or c.loop-at.all at x = c.at-placed.ensures.item in
    let here : v ≡ get_or order at v = subst (λ (r : Record). r ≡ get_or order at r) (sym c.value.ensures) (shape-at c.loop-at.all c.args.order.now c.loop-at.invariant.all at x is) in
    let box : x.bounds ≡ get_or c.args.order.now.bounds at x.bounds = bounds-at c.loop-at.all c.args.order.now c.loop-at.invariant.all at x is in
    let long : length c.args.order.now.bounds ≡ length order = long-bounds c.loop-at.all c.args.order.now c.loop-at.invariant.all in
    let there : start + i ≡ at = omega arith in
    let few : length cs ≡ end - start = ap length (sym c.requires.children.are) ∙ length-take-le (end - start) (drop start order) (omega (arith, length-drop start order)) in
    let member : get_or cs i v ≡ v =
    ap (λ (l : List Record). get_or l i v) (sym c.requires.children.are)
    ∙ get_or-take (end - start) (drop start order) i v (omega arith)
    ∙ get_or-drop start order i v
    ∙ ap (λ n. get_or order n v) there
    ∙ sym here in
    let child : is_child p v ≡ true = ap (is_child p) (sym member) ∙ all-passing p order i v (omega arith) in
    let rank : rank_of order v ≡ end - 1 - at = rank-at p order i v c.requires.rising (omega arith) member child ∙ (let n : length cs - (i + 1) ≡ end - 1 - at = omega arith in n) in
    record {
      all = ap placements_of c.at-placed.ensures.same ∙ c.loop-at.invariant.all;
      shapes =
          ap (map shape_of) c.in_ok-push.ensures.items
          ∙ map-append shape_of c.loop-at.children.items (c.new-child.result ∷ [])
          ∙ ap (λ (l : List Record). l ++ c.new-child.result.shape ∷ []) c.loop-at.invariant.shapes
          ∙ ap (λ (r : Record). map (respaced p order) (take i (drop start order)) ++ r ∷ []) (c.new-child.ensures.shape ∙ c.in_ok-shape.ensures ∙ respaced-child p order v (end - 1 - at) child rank)
          ∙ sym (map-append (respaced p order) (take i (drop start order)) (v ∷ []))
          ∙ ap (map (respaced p order)) (sym (one-more order start at v v from within here));
      bounds =
          ap (map bounds_of) c.in_ok-push.ensures.items
          ∙ map-append bounds_of c.loop-at.children.items (c.new-child.result ∷ [])
          ∙ ap (λ (l : List Bounds). l ++ c.new-child.result.bounds ∷ []) c.loop-at.invariant.bounds
          ∙ ap (λ (b : Bounds). take i (drop start c.args.order.now.bounds) ++ b ∷ []) c.new-child.ensures.bounds
          ∙ sym (one-more c.args.order.now.bounds start at x.bounds x.bounds from (omega arith) box);
    }

pub returns-clause-shapes : goal.returns-clause-shapes
returns-clause-shapes c =
    let p : Parent = c.args.parent in
    let order : List Record = c.args.order.now.shapes in
    let whole : c.loop-at.at - c.args.start ≡ c.args.end - c.args.start = (let from : c.args.start ≤ c.args.end = c.requires.children.from in let e = c.loop-at.auto.at-end from in omega arith) in
    c.loop-at.invariant.shapes
    ∙ ap (λ n. map (respaced p order) (take n (drop c.args.start order))) whole
    ∙ ap (map (respaced p order)) c.requires.children.are

pub returns-clause-bounds : goal.returns-clause-bounds
returns-clause-bounds c =
    let whole : c.loop-at.at - c.args.start ≡ c.args.end - c.args.start = (let from : c.args.start ≤ c.args.end = c.requires.children.from in let e = c.loop-at.auto.at-end from in omega arith) in
    c.loop-at.invariant.bounds ∙ ap (λ n. take n (drop c.args.start c.args.order.now.bounds)) whole

pub at-placed-requires : goal.at-placed-requires
at-placed-requires c = read-below c.loop-at.all c.loop-at.all c.args.order.now c.loop-at.invariant.all refl c.loop-at.at c.args.end c.loop-at-test.true c.requires.children.bound
