use Rattle.canvas_shape.proofs.Held.{held-left, held-right, held-inside, inside-fits, inside-within, right-within}
use Rattle.canvas_shape.proofs.spans.clamped.Goals as goal

pub returns-then-edge-from-clause-value : goal.returns-then-edge-from-clause-value
returns-then-edge-from-clause-value c = held-left c.args.left c.args.edge c.args.right c.from.result c.ranges.edge c.ranges.left (record { sfits = c.from.type_inv }) c.from.ensures c.if-edge-from.true

pub returns-then-from-edge-clause-value : goal.returns-then-from-edge-clause-value
returns-then-from-edge-clause-value c = held-right c.args.left c.args.edge c.args.right c.from.result c.from-else-edge-from.result c.ranges.edge c.ranges.left c.ranges.right (record { sfits = c.from.type_inv }) (record { sfits = c.from-else-edge-from.type_inv }) c.from.ensures c.from-else-edge-from.ensures c.if-edge-from.false c.if-from-edge.true

pub returns-then-from-edge-clause-within : goal.returns-then-from-edge-clause-within
returns-then-from-edge-clause-within c = right-within c.args.left c.args.right c.ranges.right c.requires

pub overflow_cast-result : goal.overflow_cast-result
overflow_cast-result c = inside-fits c.args.left c.args.edge c.args.right c.from.result c.from-else-edge-from.result c.ranges.edge c.ranges.left c.ranges.right (record { sfits = c.from.type_inv }) (record { sfits = c.from-else-edge-from.type_inv }) c.from.ensures c.from-else-edge-from.ensures c.if-edge-from.false c.if-from-edge.false

pub returns-else-from-edge-clause-value : goal.returns-else-from-edge-clause-value
returns-else-from-edge-clause-value c = held-inside c.args.left c.args.edge c.args.right c.from.result c.from-else-edge-from.result c.ranges.edge c.ranges.left c.ranges.right (record { sfits = c.from.type_inv }) (record { sfits = c.from-else-edge-from.type_inv }) c.from.ensures c.from-else-edge-from.ensures c.if-edge-from.false c.if-from-edge.false

pub returns-else-from-edge-clause-within : goal.returns-else-from-edge-clause-within
returns-else-from-edge-clause-within c = inside-within c.args.left c.args.edge c.args.right c.from.result c.from-else-edge-from.result c.ranges.edge c.ranges.left c.ranges.right (record { sfits = c.from.type_inv }) (record { sfits = c.from-else-edge-from.type_inv }) c.from.ensures c.from-else-edge-from.ensures c.if-edge-from.false c.if-from-edge.false
