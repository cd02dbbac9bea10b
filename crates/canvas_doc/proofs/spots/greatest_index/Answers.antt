use Rattle.std.proofs.Common.{◌∙◌, ap}
use Rattle.canvas_record.specs.Contents.{Contents}
use Rattle.canvas_doc.specs.Ends.{first_index}
use Rattle.canvas_record.specs.Siblings.{siblings, greatest_index}
use Rattle.canvas_doc.proofs.siblings.Neighbours.{greatest-first}
use Rattle.canvas_doc.proofs.spots.greatest_index.Goals as goal

pub returns : goal.returns
returns c =
    c.first_index.ensures ∙ ap (first_index c.args.own) c.children_range-start.ensures.are
    ∙ greatest-first c.args.own c.args.parent c.document.inside.order.shapes c.document.inside.records c.document.invariant.in_order
    ∙ ap (λ (d : Contents). greatest_index (siblings c.args.own c.args.parent d.records)) c.document.view_is
