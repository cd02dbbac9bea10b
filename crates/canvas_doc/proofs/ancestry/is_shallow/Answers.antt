use Rattle.std.proofs.Common.{◌∙◌, ap, subst}
use Rattle.canvas_record.specs.Contents.{Contents, IsWellFormed}
use Rattle.canvas_record.specs.Depth.{depth_of}
use Rattle.canvas_doc.proofs.tree.Ways.{shallow-is}
use Rattle.canvas_doc.proofs.ancestry.is_shallow.Goals as goal

pub returns : goal.returns
returns c =
    shallow-is c.args.document.now (subst IsWellFormed c.document.view_is c.document.invariant.well_formed) c.args.parent c.way_up-way.result.depth c.requires
    (c.way_up-way.ensures.depth ∙ ap (λ (d : Contents). depth_of 32 d.records c.args.parent) c.document.view_is)
