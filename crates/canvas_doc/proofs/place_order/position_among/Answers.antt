use Rattle.std.proofs.Common.{List, rules}
use Rattle.std.proofs.lemmas.List.Sorted.{IsPartitionPoint-from_clause}
use Rattle.canvas_record.specs.declared.records.Record.{Record}
use Rattle.canvas_doc.proofs.places.PlacePoints.{parted-at, place-of, stands_before}
use Rattle.canvas_doc.proofs.place_order.position_among.Goals as goal

pub returns : goal.returns
returns c =
    let order : List Record = c.args.order.now in
    let at = IsPartitionPoint-from_clause (stands_before c.args.place.now) order c.partition_point.result c.partition_point.ensures.partitioned (parted-at c.args.place.now order c.requires) (λ a r f called. search rules) in
    place-of c.args.place.now order c.partition_point.result c.partition_point.ensures.bound at
