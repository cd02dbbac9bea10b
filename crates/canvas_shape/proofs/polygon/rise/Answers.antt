use Rattle.std.proofs.Common.{◌^◌}
use Rattle.canvas_shape.proofs.Sizes.{gap-unsigned, gap-is, gap-most, gap-positive, near-gap}
use Rattle.canvas_shape.proofs.polygon.rise.Goals as goal

pub overflow_cast-result : goal.overflow_cast-result
overflow_cast-result c = gap-unsigned c.args.from c.args.to c.ranges.from c.ranges.to c.requires.order (near-gap c.args.from c.args.to c.requires.first c.requires.second)

pub returns-clause-value : goal.returns-clause-value
returns-clause-value c = gap-is c.args.from c.args.to c.ranges.from c.ranges.to c.requires.order (near-gap c.args.from c.args.to c.requires.first c.requires.second)

pub returns-clause-bound : goal.returns-clause-bound
returns-clause-bound c = (gap-positive c.args.from c.args.to c.ranges.from c.ranges.to c.requires.order (near-gap c.args.from c.args.to c.requires.first c.requires.second), gap-most c.args.from c.args.to (2 ^ 28) c.ranges.from c.ranges.to c.requires.order (near-gap c.args.from c.args.to c.requires.first c.requires.second) (near-gap c.args.from c.args.to c.requires.first c.requires.second))
