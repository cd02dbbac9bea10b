use Rattle.std.proofs.Common.{◌∙◌, sym}
use Rattle.canvas_doc.proofs.boxes.Widened.{group-found}
use Rattle.canvas_doc.proofs.kept_bounds.shown_group.Goals as goal

pub returns-then-not-shape : goal.returns-then-not-shape
returns-then-not-shape c = group-found c.args.parent c.in-Shape.id c.args.records.now c.in_ok-shape.shape.now c.in-Shape.is (sym c.in_ok-shape.ensures) (sym c.is_group.ensures ∙ c.if-is_group.true) c.if-not-shape.true
