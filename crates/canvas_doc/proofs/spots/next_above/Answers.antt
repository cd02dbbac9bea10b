use Rattle.std.proofs.Common.{◌≡◌, ◌∙◌, ap, sym, subst, Some}
use Rattle.std.specs.List.{Contains}
use Rattle.std.specs.Option.{option_copied}
use Rattle.canvas_key.specs.Order.{AreApart}
use Rattle.canvas_record.specs.Contents.{Contents}
use Rattle.canvas_record.specs.Siblings.{siblings, least_above}
use Rattle.canvas_doc.proofs.siblings.Neighbours.{next-least, among-children}
use Rattle.canvas_doc.proofs.siblings.Spotted.{least-apart}
use Rattle.canvas_doc.proofs.spots.next_above.Goals as goal
use Rattle.canvas_doc.proofs.spots.next_above.Goals.{After-last_index}

pub last_index-requires : goal.last_index-requires
last_index-requires c = record {
  from =
      (among-children c.document.inside.order.shapes c.document.inside.records c.children_range-start.result.start c.children_range-start.result.end c.position_in-end.result c.args.shape.now c.document.invariant.in_order
      (subst (λ (d : Contents). Contains d.records c.args.shape.now) (sym c.document.view_is) c.requires) c.children_range-start.ensures c.position_in-end.ensures).0;
  bound = c.position_in-end.ensures.bound;
}

value : (c : After-last_index) → option_copied c.last_index.result ≡ least_above (Some c.args.shape.now.place.index) (siblings c.args.own c.args.shape.now.place.parent c.args.document.now.records)
value c =
    c.last_index.ensures
    ∙ next-least c.args.own c.document.inside.order.shapes c.document.inside.records c.children_range-start.result.start c.children_range-start.result.end c.position_in-end.result c.args.shape.now c.document.invariant.in_order
    (subst (λ (d : Contents). Contains d.records c.args.shape.now) (sym c.document.view_is) c.requires) c.children_range-start.ensures c.position_in-end.ensures
    ∙ ap (λ (d : Contents). least_above (Some c.args.shape.now.place.index) (siblings c.args.own c.args.shape.now.place.parent d.records)) c.document.view_is

pub returns : goal.returns
returns c = record {
  value = value c;
  apart = subst (AreApart (Some c.args.shape.now.place.index)) (sym (value c)) (least-apart (Some c.args.shape.now.place.index) (siblings c.args.own c.args.shape.now.place.parent c.args.document.now.records));
}
