use Rattle.std.proofs.Common.{◌^◌}
use Rattle.canvas_shape.proofs.Sizes.{size-kept}
use Rattle.canvas_shape.proofs.Leans.{below-is}
use Rattle.canvas_shape.proofs.polygon.below.Goals as goal

pub returns-clause-value : goal.returns-clause-value
returns-clause-value c = below-is c.args.y c.args.top c.centre.result c.doubled.result c.less.result c.ranges.y c.ranges.top (record { sfits = c.centre.type_inv }) (record { sfits = c.doubled.type_inv }) (record { sfits = c.less.type_inv }) c.centre.ensures.value c.doubled.ensures.value c.less.ensures.value

pub returns-clause-bound : goal.returns-clause-bound
returns-clause-bound c = size-kept c.less.result (2 ^ 33) (record { sfits = c.less.type_inv }) c.less.ensures.bound
