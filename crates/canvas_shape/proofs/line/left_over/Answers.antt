use Rattle.canvas_shape.proofs.Leans.{left-fits, left-is, left-unsigned}
use Rattle.canvas_shape.proofs.line.left_over.Goals as goal

pub overflow_sub-result-2 : goal.overflow_sub-result-2
overflow_sub-result-2 c = left-fits c.args.n c.args.half c.ranges.n c.ranges.half c.requires.second c.requires.least c.requires.most

pub overflow_cast-result : goal.overflow_cast-result
overflow_cast-result c = left-unsigned c.args.n c.args.half c.ranges.n c.ranges.half c.requires.second c.requires.least c.requires.most

pub returns : goal.returns
returns c = left-is c.args.n c.args.half c.ranges.n c.ranges.half c.requires.second c.requires.least c.requires.most
