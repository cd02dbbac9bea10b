use Rattle.canvas_shape.proofs.Grids.{way-fits, way-unsigned, way-is}
use Rattle.canvas_shape.proofs.grid.way_before.Goals as goal

pub overflow_sub-result-2 : goal.overflow_sub-result-2
overflow_sub-result-2 c = way-fits c.args.edge c.args.from c.ranges.edge c.ranges.from c.requires.least c.requires.most

pub overflow_cast-result : goal.overflow_cast-result
overflow_cast-result c = way-unsigned c.args.edge c.args.from c.ranges.edge c.ranges.from c.requires.least c.requires.most

pub returns : goal.returns
returns c = way-is c.args.edge c.args.from c.ranges.edge c.ranges.from c.requires.least c.requires.most
