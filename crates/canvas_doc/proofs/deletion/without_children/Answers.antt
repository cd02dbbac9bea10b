use Rattle.std.proofs.Common.{◌∙◌, ◌++◌, List, ap, drop, map, take}
use Rattle.std.proofs.lemmas.List.{append-nil}
use Rattle.canvas_doc.specs.declared.bounds.Bounds.{Bounds}
use Rattle.canvas_doc.specs.declared.placed_shapes.PlacedShape.{PlacedShape}
use Rattle.canvas_record.specs.declared.records.Record.{Record}
use Rattle.canvas_doc.proofs.deleting.Freed.{lists-after, records-after}
use Rattle.canvas_doc.proofs.editing.Placements.{bounds_of, shape_of}
use Rattle.canvas_doc.proofs.deletion.without_children.Goals as goal

pub returns-clause-lists : goal.returns-clause-lists
returns-clause-lists c =
    let rs : List Record = c.args.lists.records in
    let order : List Record = c.args.lists.order.shapes in
    let bounds : List Bounds = c.args.lists.order.bounds in
    let range = c.children_range-start.result in
    lists-after c.args.holder rs order bounds range.start range.end c.in_ok-records.records c.in_ok-order.order.shapes c.in_ok-order.order.bounds c.requires c.children_range-start.ensures
    (records-after c.args.holder rs order c.in_ok-records.records range.start range.end c.requires.rising c.requires.in_order c.children_range-start.ensures c.in_ok-records.ensures)
    (c.in_ok-order.ensures.shapes ∙ ap (λ (l : List PlacedShape). take range.start order ++ map shape_of l ++ drop range.end order) c.new.ensures.items ∙ ap (λ (l : List Record). l ++ drop range.end order) (append-nil (take range.start order)))
    (c.in_ok-order.ensures.bounds ∙ ap (λ (l : List PlacedShape). take range.start bounds ++ map bounds_of l ++ drop range.end bounds) c.new.ensures.items ∙ ap (λ (l : List Bounds). l ++ drop range.end bounds) (append-nil (take range.start bounds)))

pub returns-clause-records : goal.returns-clause-records
returns-clause-records c =
    records-after c.args.holder c.args.lists.records c.args.lists.order.shapes c.in_ok-records.records c.children_range-start.result.start c.children_range-start.result.end c.requires.rising c.requires.in_order c.children_range-start.ensures c.in_ok-records.ensures
