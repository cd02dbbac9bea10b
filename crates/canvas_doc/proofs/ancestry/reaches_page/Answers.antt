use Rattle.std.proofs.Common.{◌∙◌, ap, sym}
use Rattle.canvas_record.specs.Contents.{Contents}
use Rattle.canvas_record.specs.Decision.{can_have_children}
use Rattle.canvas_doc.proofs.tree.Deep.{leaf-nowhere}
use Rattle.canvas_doc.proofs.ancestry.reaches_page.Goals as goal

pub is_shallow-requires : goal.is_shallow-requires
is_shallow-requires c = sym (c.can_have_children.ensures ∙ ap (λ (d : Contents). can_have_children d.records c.args.parent) c.document.view_is) ∙ c.if-can_have_children.true

pub returns-else-can_have_children : goal.returns-else-can_have_children
returns-else-can_have_children c =
    c.if-can_have_children.false
    ∙ leaf-nowhere c.args.document.now.records c.args.parent
    (sym (c.can_have_children.ensures ∙ ap (λ (d : Contents). can_have_children d.records c.args.parent) c.document.view_is) ∙ c.if-can_have_children.false)
