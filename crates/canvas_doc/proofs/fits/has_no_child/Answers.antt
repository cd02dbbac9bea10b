use Rattle.std.proofs.Common.{◌∙◌, ap}
use Rattle.canvas_record.specs.Contents.{Contents}
use Rattle.canvas_doc.specs.Fitting.{has_no_child}
use Rattle.canvas_doc.proofs.tree.Childless.{no_child-from_range}
use Rattle.canvas_doc.proofs.fits.has_no_child.Goals as goal

pub returns : goal.returns
returns c =
    let d = c.document.inside in
    no_child-from_range c.args.id d.order.shapes d.records c.children_range-children.result.start c.children_range-children.result.end c.document.invariant.in_order c.children_range-children.ensures
    ∙ ap (λ (e : Contents). has_no_child c.args.id e.records) c.document.view_is
