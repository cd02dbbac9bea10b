use Rattle.std.proofs.Common.{◌∙◌, sym}
use Rattle.canvas_doc.proofs.boxes.BoundsLaws.{empty-within}
use Rattle.canvas_doc.proofs.bounds.Bounds.hull.Goals as goal

pub returns-then-is_empty-clause-first : goal.returns-then-is_empty-clause-first
returns-then-is_empty-clause-first c = empty-within c.args.self.now c.args.other.now (sym c.is_empty.ensures ∙ c.if-is_empty.true)

pub returns-then-is_empty-2-clause-second : goal.returns-then-is_empty-2-clause-second
returns-then-is_empty-2-clause-second c = empty-within c.args.other.now c.args.self.now (sym c.is_empty-else-is_empty.ensures ∙ c.if-is_empty-2.true)
