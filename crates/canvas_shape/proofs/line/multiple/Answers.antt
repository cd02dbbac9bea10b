use Rattle.canvas_shape.proofs.Leans.{multiple-fits, multiple-is}
use Rattle.canvas_shape.proofs.line.multiple.Goals as goal

pub overflow_mul-result : goal.overflow_mul-result
overflow_mul-result c = multiple-fits c.args.a c.args.height c.ranges.a c.requires.low c.requires.small

pub returns : goal.returns
returns c = multiple-is c.args.a c.args.height c.ranges.a c.requires.low c.requires.small
