use Rattle.std.proofs.Common.{◌≤◌, List, rules, subst}
use Rattle.std.proofs.lemmas.List.Sorted.{IsPartitionPoint-from_clause}
use Rattle.canvas_doc.specs.declared.placed_shapes.PlacedShape.{PlacedShape}
use Rattle.canvas_record.specs.declared.records.Record.{Record}
use Rattle.canvas_doc.proofs.editing.Placements.{long, point, shape_of}
use Rattle.canvas_doc.proofs.places.PlacePoints.{parted-at, place-of, stands_before}
use Rattle.canvas_doc.proofs.place_order.position_in.Goals as goal

pub returns : goal.returns
returns c =
    let order : List Record = c.args.order.now.shapes in
    let all : List PlacedShape = c.order.inside.list in
    let at = point all c.args.order.now c.order.view_is (stands_before c.args.place.now) c.partition_point_near.result c.partition_point_near.ensures.bound
    (λ parted. IsPartitionPoint-from_clause (λ x. stands_before c.args.place.now (shape_of x)) all c.partition_point_near.result c.partition_point_near.ensures.partitioned parted (λ a r f called. search rules))
    (parted-at c.args.place.now order c.requires) in
    place-of c.args.place.now order c.partition_point_near.result (subst (λ n. c.partition_point_near.result ≤ n) (long all c.args.order.now c.order.view_is) c.partition_point_near.ensures.bound) at
