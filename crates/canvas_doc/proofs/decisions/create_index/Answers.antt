use Rattle.std.proofs.Common.{◌∙◌, ap, sym}
use Rattle.canvas_record.specs.Contents.{Contents}
use Rattle.canvas_record.specs.Decision.{can_have_children}
use Rattle.canvas_doc.proofs.decisions.create_index.Goals as goal

pub is_shallow-requires : goal.is_shallow-requires
is_shallow-requires c = sym (c.can_have_children.ensures ∙ ap (λ (d : Contents). can_have_children d.records c.args.parent) c.document.view_is) ∙ c.if-not-can_have_children.false
