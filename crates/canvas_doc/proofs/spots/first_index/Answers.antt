use Rattle.std.proofs.Common.{◌∙◌, sym}
use Rattle.canvas_doc.proofs.siblings.Ends.{first-found, first-later}
use Rattle.canvas_doc.proofs.spots.first_index.Goals as goal

pub returns-then-shape-own : goal.returns-then-shape-own
returns-then-shape-own c = sym (c.loop-at.invariant ∙ first-found c.args.own c.args.order.now.shapes c.loop-at.at c.args.end c.value-shape.result.now c.at.result.now c.loop-at-test.true c.requires.bound (c.value-shape.ensures ∙ c.at.ensures) c.if-shape-own.true)

pub loop-at-preserved : goal.loop-at-preserved
loop-at-preserved c = c.loop-at.invariant ∙ first-later c.args.own c.args.order.now.shapes c.loop-at.at c.args.end c.value-shape.result.now c.at.result.now c.loop-at-test.true c.requires.bound (c.value-shape.ensures ∙ c.at.ensures) c.if-shape-own.false
