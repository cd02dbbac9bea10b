use Rattle.std.proofs.lemmas.Int.{to_z-of_z}
use Rattle.std.specs.Int.{w32}
use Rattle.std.proofs.Common.{◌∙◌}
use Rattle.canvas_shape.proofs.Held.{held-kept}
use Rattle.canvas_shape.proofs.spans.cut.Goals as goal

pub returns-clause-from : goal.returns-clause-from
returns-clause-from c = to_z-of_z w32 c.clamped.result (record { sfits = c.clamped.type_inv }) ∙ c.clamped.ensures.value ∙ held-kept c.args.left c.args.from c.args.right c.ranges.left c.ranges.from c.ranges.right

pub returns-clause-to : goal.returns-clause-to
returns-clause-to c = to_z-of_z w32 c.clamped-2.result (record { sfits = c.clamped-2.type_inv }) ∙ c.clamped-2.ensures.value ∙ held-kept c.args.left c.args.to c.args.right c.ranges.left c.ranges.to c.ranges.right
