use Rattle.std.proofs.Common.{◌≤◌, List, rules, subst}
use Rattle.std.specs.Ordering.{is_le, is_lt}
use Rattle.std.proofs.lemmas.List.Sorted.{IsPartitionPoint-from_clause}
use Rattle.canvas_doc.specs.declared.placed_shapes.PlacedShape.{PlacedShape}
use Rattle.canvas_record.specs.declared.records.Record.{Record}
use Rattle.canvas_doc.proofs.editing.Placements.{long, point, shape_of}
use Rattle.canvas_doc.proofs.places.PlacePoints.{children-within, has_parent, parted-before, parted-up_to}
use Rattle.canvas_doc.proofs.place_order.children_of.Goals as goal

pub returns-clause-children : goal.returns-clause-children
returns-clause-children c =
    let order : List Record = c.args.order.now.shapes in
    let all : List PlacedShape = c.order.inside.list in
    let count = long all c.args.order.now c.order.view_is in
    let low = point all c.args.order.now c.order.view_is (has_parent is_lt c.args.parent) c.range_near.result.start c.range_near.ensures.start
    (λ parted. IsPartitionPoint-from_clause (λ x. has_parent is_lt c.args.parent (shape_of x)) all c.range_near.result.start c.range_near.ensures.before parted (λ a r f called. search rules))
    (parted-before c.args.parent order c.requires) in
    let high = point all c.args.order.now c.order.view_is (has_parent is_le c.args.parent) c.range_near.result.end c.range_near.ensures.end
    (λ parted. IsPartitionPoint-from_clause (λ x. has_parent is_le c.args.parent (shape_of x)) all c.range_near.result.end c.range_near.ensures.within parted (λ a r f called. search rules))
    (parted-up_to c.args.parent order c.requires) in
    children-within c.args.parent order c.range_near.result.start c.range_near.result.end
    (subst (λ n. c.range_near.result.start ≤ n) count c.range_near.ensures.start) (subst (λ n. c.range_near.result.end ≤ n) count c.range_near.ensures.end) low high
