use Rattle.std.proofs.Common.{◌∙◌, ap, None}
use Rattle.canvas_record.specs.Contents.{Contents}
use Rattle.canvas_doc.specs.Ends.{last_index}
use Rattle.canvas_record.specs.Siblings.{siblings, least_above}
use Rattle.canvas_doc.proofs.siblings.Neighbours.{least-last}
use Rattle.canvas_doc.proofs.spots.least_index.Goals as goal

pub returns : goal.returns
returns c =
    c.last_index.ensures ∙ ap (last_index c.args.own) c.children_range-start.ensures.are
    ∙ least-last c.args.own c.args.parent c.document.inside.order.shapes c.document.inside.records c.document.invariant.in_order
    ∙ ap (λ (d : Contents). least_above None (siblings c.args.own c.args.parent d.records)) c.document.view_is
