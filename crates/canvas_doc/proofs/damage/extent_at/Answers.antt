use Rattle.std.proofs.Common.{◌∙◌, sym, ap}
use Rattle.canvas_record.specs.Contents.{Contents, record_of}
use Rattle.canvas_record.specs.Damage.{extent_on_page}
use Rattle.canvas_record.specs.Tree.{IsInLimits}
use Rattle.canvas_doc.proofs.extents.BothExtents.{leaf-found}
use Rattle.canvas_doc.proofs.extents.Extents.{on-page}
use Rattle.canvas_doc.proofs.fitting.Fit.{found-all}
use Rattle.canvas_doc.proofs.damage.extent_at.Goals as goal

pub extent_of-requires-clause-leaf : goal.extent_of-requires-clause-leaf
extent_of-requires-clause-leaf c = leaf-found c.args.id _ c.args.document.now c.in-Some.shape.now c.document.invariant.well_formed c.document.view_is c.in-Some.ensures

pub extent_of-requires-clause-limits : goal.extent_of-requires-clause-limits
extent_of-requires-clause-limits c = found-all IsInLimits c.args.id c.document.inside.records c.in-Some.shape.now c.document.invariant.well_formed.limits (sym c.in-Some.ensures)

pub returns-in-Some : goal.returns-in-Some
returns-in-Some c =
    on-page c.args.document.now.records c.document.inside.records c.in-Some.shape.now c.way_up-up.result.pose c.extent_of.result (ap (λ (d : Contents). d.records) c.document.view_is) c.way_up-up.ensures.carries c.extent_of.ensures
    ∙ ap (extent_on_page c.args.document.now.records) (c.in-Some.ensures ∙ ap (λ (d : Contents). record_of c.args.id d.records) c.document.view_is)
