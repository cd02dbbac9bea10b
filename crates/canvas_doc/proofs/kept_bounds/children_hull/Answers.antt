use Rattle.std.proofs.Common.{◌≡◌, ◌-◌, ◌∙◌, All, List, ap, drop, map, subst, sym, take}
use Rattle.std.specs.List.{drop-map, take-map}
use Rattle.std.proofs.lemmas.List.Elements.{All-map, All-weaker}
use Rattle.canvas_doc.specs.declared.bounds.Bounds.{Bounds}
use Rattle.canvas_doc.specs.declared.placed_shapes.PlacedShape.{PlacedShape}
use Rattle.canvas_record.specs.declared.records.Parent.TheVariants.{Shape}
use Rattle.canvas_doc.specs.Bounds.{IsWithinBounds}
use Rattle.canvas_doc.specs.Coverage.{IsCovered}
use Rattle.canvas_doc.proofs.boxes.Hulled.{children-hulled}
use Rattle.canvas_doc.proofs.editing.Placements.{bounds-are, bounds_of, long-bounds}
use Rattle.canvas_doc.proofs.kept_bounds.children_hull.Goals as goal

pub returns : goal.returns
returns c =
    let range = c.children_range-start.result in
    let hull : Bounds = c.summed_with.result.bounds in
    let list : List PlacedShape = c.order.inside.list in
    let boxes : map bounds_of (take (range.end - range.start) (drop range.start list)) ≡ take (range.end - range.start) (drop range.start c.args.order.now.bounds) =
    sym (take-map bounds_of (range.end - range.start) (drop range.start list))
    ∙ ap (take (range.end - range.start)) (sym (drop-map bounds_of range.start list) ∙ ap (drop range.start) (bounds-are list c.args.order.now c.order.view_is)) in
    let held : All (λ b. IsWithinBounds b hull) (take (range.end - range.start) (drop range.start c.args.order.now.bounds)) =
    subst (All (λ b. IsWithinBounds b hull)) boxes
    (All-map (λ b. IsWithinBounds b hull) bounds_of (take (range.end - range.start) (drop range.start list))
    (subst (All (λ placed. IsWithinBounds (bounds_of placed) hull)) c.iter_range.ensures.items (All-weaker (λ (placed : PlacedShape). IsCovered placed.bounds c.summed_with.result) (λ placed. IsWithinBounds (bounds_of placed) hull) (λ placed covered. covered.box) c.iter_range.result c.summed_with.ensures.items))) in
    children-hulled (Shape c.args.id) c.args.order.now.shapes c.args.order.now.bounds range.start range.end hull c.requires (long-bounds list c.args.order.now c.order.view_is) c.children_range-start.ensures held
