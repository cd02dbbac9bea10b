use Rattle.std.proofs.Common.{arith}
use Rattle.canvas_paint.proofs.Cutting.{part-none}
use Rattle.canvas_paint.proofs.word.part.Goals as goal

pub returns-else-start-end : goal.returns-else-start-end
returns-else-start-end c = λ i lt. part-none c.args.from c.args.to c.args.base i c.min-start.result c.min-end.result (omega arith) (omega arith) (omega arith) lt
