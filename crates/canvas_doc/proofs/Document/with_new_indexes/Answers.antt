use Rattle.std.proofs.Common.{◌∙◌, ◌+◌, ◌<◌, ◌^◌, ℕ, List, ap, length, map, subst, sym}
use Rattle.std.proofs.lemmas.List.{length-map}
use Rattle.std.specs.Option.{unwrap_or}
use Rattle.canvas_record.specs.declared.records.Record.{Record}
use Rattle.canvas_record.specs.Contents.{record_of, Contents, HaveIds}
use Rattle.canvas_record.specs.Effect.{respaced}
use Rattle.canvas_doc.proofs.editing.InPlace.{few-within}
use Rattle.canvas_doc.proofs.editing.Placements.{bounds_of, shape_of}
use Rattle.canvas_doc.proofs.spacing.Respacings.{kept-respaced, many-more, once, records-are, AreRespaced, AreToBeRespaced}
use Rattle.canvas_doc.proofs.Document.with_new_indexes.Goals as goal

pub with_each-requires-clause-once : goal.with_each-requires-clause-once
with_each-requires-clause-once c =
    let d : Contents = record { records = c.self.inside.records; next = c.self.inside.next } in
    let at : AreToBeRespaced d c.self.inside.order.shapes c.self.inside.order.bounds c.args.parent c.children_range-start.result.start c.children_range-start.result.end =
    record { kept = c.self.invariant; children = c.children_range-start.ensures } in
    let are : AreRespaced c.self.inside.order.shapes c.self.inside.order.bounds c.args.parent c.children_range-start.result.start c.children_range-start.result.end (map shape_of c.in_ok-children.children.items) (map bounds_of c.in_ok-children.children.items) =
    record { shapes_are = c.in_ok-children.ensures.shapes; boxes_are = c.in_ok-children.ensures.bounds } in
    subst HaveIds (sym (ap (map shape_of) c.deref.ensures.value)) (once d c.self.inside.order.shapes c.self.inside.order.bounds c.args.parent c.children_range-start.result.start c.children_range-start.result.end at (map shape_of c.in_ok-children.children.items) (map bounds_of c.in_ok-children.children.items) are)

pub invariant_of-result : goal.invariant_of-result
invariant_of-result c =
    let d : Contents = record { records = c.self.inside.records; next = c.self.inside.next } in
    let at : AreToBeRespaced d c.self.inside.order.shapes c.self.inside.order.bounds c.args.parent c.children_range-start.result.start c.children_range-start.result.end =
    record { kept = c.self.invariant; children = c.children_range-start.ensures } in
    let are : AreRespaced c.self.inside.order.shapes c.self.inside.order.bounds c.args.parent c.children_range-start.result.start c.children_range-start.result.end (map shape_of c.in_ok-children.children.items) (map bounds_of c.in_ok-children.children.items) =
    record { shapes_are = c.in_ok-children.ensures.shapes; boxes_are = c.in_ok-children.ensures.bounds } in
    kept-respaced d c.self.inside.order.shapes c.self.inside.order.bounds c.args.parent c.children_range-start.result.start c.children_range-start.result.end at (map shape_of c.in_ok-children.children.items) (map bounds_of c.in_ok-children.children.items) are c.in_ok-records.records c.in_ok-order.order.shapes c.in_ok-order.order.bounds
    (c.in_ok-records.ensures ∙ ap (λ (l : List Record). map (λ (r : Record). unwrap_or (record_of r.id l) r) c.self.inside.records) (ap (map shape_of) c.deref.ensures.value))
    c.in_ok-order.ensures.shapes c.in_ok-order.ensures.bounds

pub returns : goal.returns
returns c =
    let d : Contents = record { records = c.self.inside.records; next = c.self.inside.next } in
    let at : AreToBeRespaced d c.self.inside.order.shapes c.self.inside.order.bounds c.args.parent c.children_range-start.result.start c.children_range-start.result.end =
    record { kept = c.self.invariant; children = c.children_range-start.ensures } in
    let are : AreRespaced c.self.inside.order.shapes c.self.inside.order.bounds c.args.parent c.children_range-start.result.start c.children_range-start.result.end (map shape_of c.in_ok-children.children.items) (map bounds_of c.in_ok-children.children.items) =
    record { shapes_are = c.in_ok-children.ensures.shapes; boxes_are = c.in_ok-children.ensures.bounds } in
    ap (λ (l : List Record). record { records = l; next = c.self.inside.next }) (records-are d c.self.inside.order.shapes c.self.inside.order.bounds c.args.parent c.children_range-start.result.start c.children_range-start.result.end at (map shape_of c.in_ok-children.children.items) (map bounds_of c.in_ok-children.children.items) are c.in_ok-records.records (c.in_ok-records.ensures ∙ ap (λ (l : List Record). map (λ (r : Record). unwrap_or (record_of r.id l) r) c.self.inside.records) (ap (map shape_of) c.deref.ensures.value)))
    ∙ ap (λ (e : Contents). record { records = map (respaced c.args.parent e.records) e.records; next = e.next }) c.self.view_is

pub children_range-start-requires : goal.children_range-start-requires
children_range-start-requires c = c.self.invariant.in_order.rising

pub respaced_children-requires-clause-rising : goal.respaced_children-requires-clause-rising
respaced_children-requires-clause-rising c = c.self.invariant.in_order.rising

pub respaced_children-requires-clause-children : goal.respaced_children-requires-clause-children
respaced_children-requires-clause-children c = c.children_range-start.ensures

pub respaced_children-requires-clause-few : goal.respaced_children-requires-clause-few
respaced_children-requires-clause-few c = few-within c.self.inside.order.shapes c.self.inside.records c.children_range-start.result.start c.children_range-start.result.end c.self.invariant.in_order.long c.self.invariant.well_formed.few c.children_range-start.ensures.bound

pub with_each-requires-clause-few : goal.with_each-requires-clause-few
with_each-requires-clause-few c = c.self.invariant.well_formed.few

pub with_each-requires-clause-rising : goal.with_each-requires-clause-rising
with_each-requires-clause-rising c = c.self.invariant.well_formed.rising

pub with_spliced-requires-clause-order : goal.with_spliced-requires-clause-order
with_spliced-requires-clause-order c = c.children_range-start.ensures.from

pub with_spliced-requires-clause-within : goal.with_spliced-requires-clause-within
with_spliced-requires-clause-within c = c.children_range-start.ensures.bound

pub with_spliced-requires-clause-few : goal.with_spliced-requires-clause-few
with_spliced-requires-clause-few c =
    let d : Contents = record { records = c.self.inside.records; next = c.self.inside.next } in
    let at : AreToBeRespaced d c.self.inside.order.shapes c.self.inside.order.bounds c.args.parent c.children_range-start.result.start c.children_range-start.result.end =
    record { kept = c.self.invariant; children = c.children_range-start.ensures } in
    let are : AreRespaced c.self.inside.order.shapes c.self.inside.order.bounds c.args.parent c.children_range-start.result.start c.children_range-start.result.end (map shape_of c.in_ok-children.children.items) (map bounds_of c.in_ok-children.children.items) =
    record { shapes_are = c.in_ok-children.ensures.shapes; boxes_are = c.in_ok-children.ensures.bounds } in
    subst (λ (n : ℕ). length c.self.inside.order.shapes + n < 2 ^ 32) (length-map c.in_ok-children.children.items shape_of)
    (many-more d c.self.inside.order.shapes c.self.inside.order.bounds c.args.parent c.children_range-start.result.start c.children_range-start.result.end at (map shape_of c.in_ok-children.children.items) (map bounds_of c.in_ok-children.children.items) are)
