use Rattle.canvas_paint.proofs.Bits.{has-between, ones-le}
use Rattle.canvas_paint.proofs.word.between.Goals as goal

pub overflow_sub-result : goal.overflow_sub-result
overflow_sub-result c = ones-le c.first.result c.first-2.result c.args.from c.args.to c.requires.order c.first.ensures c.first-2.ensures

pub returns : goal.returns
returns c = λ i h. has-between c.first.result c.first-2.result c.args.from c.args.to i c.first.ensures c.first-2.ensures
