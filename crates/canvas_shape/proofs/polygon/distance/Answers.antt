use Rattle.canvas_shape.proofs.Sizes.{pixels-fit, pixels-unsigned, pixels-is}
use Rattle.canvas_shape.proofs.polygon.distance.Goals as goal

pub overflow_sub-result : goal.overflow_sub-result
overflow_sub-result c = pixels-fit c.args.from c.args.to c.from-2.result c.from.result c.ranges.from c.ranges.to (record { sfits = c.from-2.type_inv }) (record { sfits = c.from.type_inv }) c.from-2.ensures c.from.ensures c.requires

pub overflow_cast-result : goal.overflow_cast-result
overflow_cast-result c = pixels-unsigned c.args.from c.args.to c.from-2.result c.from.result c.ranges.from c.ranges.to (record { sfits = c.from-2.type_inv }) (record { sfits = c.from.type_inv }) c.from-2.ensures c.from.ensures c.requires

pub returns : goal.returns
returns c = pixels-is c.args.from c.args.to c.from-2.result c.from.result c.ranges.from c.ranges.to (record { sfits = c.from-2.type_inv }) (record { sfits = c.from.type_inv }) c.from-2.ensures c.from.ensures c.requires
