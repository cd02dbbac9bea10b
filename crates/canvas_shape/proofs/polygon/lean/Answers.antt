use Rattle.std.proofs.Common.{◌^◌}
use Rattle.canvas_shape.proofs.Leans.{lean-is}
use Rattle.canvas_shape.proofs.Sizes.{size-kept, x-near}
use Rattle.canvas_shape.proofs.polygon.lean.Goals as goal

pub minus-requires-clause-first : goal.minus-requires-clause-first
minus-requires-clause-first c = x-near c.args.q c.requires.near.1

pub minus-requires-clause-second : goal.minus-requires-clause-second
minus-requires-clause-second c = x-near c.args.p c.requires.near.0

pub product-requires-clause-first : goal.product-requires-clause-first
product-requires-clause-first c = size-kept c.below.result (2 ^ 33) (record { sfits = c.below.type_inv }) c.below.ensures.bound

pub product-requires-clause-second : goal.product-requires-clause-second
product-requires-clause-second c = size-kept c.minus.result (2 ^ 28) (record { sfits = c.minus.type_inv }) c.minus.ensures.bound

pub returns-clause-value : goal.returns-clause-value
returns-clause-value c = lean-is c.args.p c.args.q c.args.y c.below.result c.minus.result c.product.result c.requires.near.0 c.requires.near.1 c.ranges.y (record { sfits = c.below.type_inv }) (record { sfits = c.minus.type_inv }) (record { sfits = c.product.type_inv }) c.below.ensures.value c.minus.ensures.value c.product.ensures.value

pub returns-clause-bound : goal.returns-clause-bound
returns-clause-bound c = size-kept c.product.result (2 ^ 61) (record { sfits = c.product.type_inv }) c.product.ensures.bound
