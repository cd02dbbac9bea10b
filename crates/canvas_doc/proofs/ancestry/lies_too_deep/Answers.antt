use Rattle.std.proofs.Common.{◌∙◌, sym, ap, subst}
use Rattle.canvas_record.specs.Contents.{Contents, IsWellFormed}
use Rattle.canvas_record.specs.Decision.{can_have_children}
use Rattle.canvas_record.specs.Depth.{depth_of}
use Rattle.canvas_record.specs.Effect.{is_below}
use Rattle.canvas_doc.proofs.tree.Deep.{deep-cycle, deep-is, deep-leaf}
use Rattle.canvas_doc.proofs.ancestry.lies_too_deep.Goals as goal

pub returns-then-not-can_have_children : goal.returns-then-not-can_have_children
returns-then-not-can_have_children c =
    deep-leaf c.args.document.now.records c.args.id c.args.under c.args.shape.now c.requires
    (sym (c.can_have_children.ensures ∙ ap (λ (d : Contents). can_have_children d.records c.args.under) c.document.view_is) ∙ c.if-not-can_have_children.true)

pub returns-then-way : goal.returns-then-way
returns-then-way c =
    c.if-way.true
    ∙ deep-cycle c.args.document.now.records c.args.id c.args.under c.args.shape.now c.requires
    (sym (c.way_up-way.ensures.own ∙ ap (λ (d : Contents). is_below 32 c.args.id d.records c.args.under) c.document.view_is) ∙ c.if-way.true)

pub returns-else-way : goal.returns-else-way
returns-else-way c =
    deep-is c.args.document.now (subst IsWellFormed c.document.view_is c.document.invariant.well_formed) c.args.id c.args.under c.way_up-way.result.depth c.height_of.result
    (sym (c.can_have_children.ensures ∙ ap (λ (d : Contents). can_have_children d.records c.args.under) c.document.view_is) ∙ c.if-not-can_have_children.false)
    (sym (c.way_up-way.ensures.own ∙ ap (λ (d : Contents). is_below 32 c.args.id d.records c.args.under) c.document.view_is) ∙ c.if-way.false)
    (c.way_up-way.ensures.depth ∙ ap (λ (d : Contents). depth_of 32 d.records c.args.under) c.document.view_is)
    c.height_of.ensures.value

pub height_of-requires-clause-well_formed : goal.height_of-requires-clause-well_formed
height_of-requires-clause-well_formed c = subst IsWellFormed c.document.view_is c.document.invariant.well_formed
