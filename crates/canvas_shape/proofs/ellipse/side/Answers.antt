use Rattle.std.proofs.Common.{◌-ℤ◌}
use Rattle.canvas_shape.proofs.Sizes.{gap-unsigned, gap-is, gap-most, gap-positive, side-gap}
use Rattle.canvas_shape.proofs.ellipse.side.Goals as goal

pub overflow_cast-result : goal.overflow_cast-result
overflow_cast-result c = gap-unsigned c.args.from c.args.to c.ranges.from c.ranges.to c.requires.wide (side-gap (c.args.to -ℤ c.args.from) c.requires.most)

pub returns-clause-value : goal.returns-clause-value
returns-clause-value c = gap-is c.args.from c.args.to c.ranges.from c.ranges.to c.requires.wide (side-gap (c.args.to -ℤ c.args.from) c.requires.most)

pub returns-clause-least : goal.returns-clause-least
returns-clause-least c = gap-positive c.args.from c.args.to c.ranges.from c.ranges.to c.requires.wide (side-gap (c.args.to -ℤ c.args.from) c.requires.most)

pub returns-clause-most : goal.returns-clause-most
returns-clause-most c = gap-most c.args.from c.args.to 65536 c.ranges.from c.ranges.to c.requires.wide (side-gap (c.args.to -ℤ c.args.from) c.requires.most) c.requires.most
