use Rattle.std.proofs.Common.{◌∙◌, sym, arith}
use Rattle.canvas_doc.proofs.siblings.Ends.{last-found, last-earlier}
use Rattle.canvas_doc.proofs.spots.last_index.Goals as goal

pub returns-then-shape-own : goal.returns-then-shape-own
returns-then-shape-own c = sym (c.loop-at.invariant ∙ last-found c.args.own c.args.order.now.shapes c.args.start c.loop-at.at c.value-shape.result.now c.at.result.now (omega arith) (omega arith) (c.value-shape.ensures ∙ c.at.ensures) c.if-shape-own.true)

pub loop-at-preserved : goal.loop-at-preserved
loop-at-preserved c = c.loop-at.invariant ∙ last-earlier c.args.own c.args.order.now.shapes c.args.start c.loop-at.at c.value-shape.result.now c.at.result.now (omega arith) (omega arith) (c.value-shape.ensures ∙ c.at.ensures) c.if-shape-own.false
