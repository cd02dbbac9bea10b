use Rattle.std.proofs.lemmas.Int.{to_z-of_z}
use Rattle.std.specs.Int.{w32}
use Rattle.canvas_shape.proofs.Held.{end-is, end-ordered, end-fits}
use Rattle.canvas_shape.proofs.edge_flags.row_from.Goals as goal

pub invariant_of-result : goal.invariant_of-result
invariant_of-result c = record { ordered = end-ordered c.args.left c.from.result c.args.width c.ranges.left (record { sfits = c.from.type_inv }) c.ranges.width.fits c.from.ensures c.requires }

pub returns-clause-left : goal.returns-clause-left
returns-clause-left c = to_z-of_z w32 c.args.left c.ranges.left

pub returns-clause-right : goal.returns-clause-right
returns-clause-right c = end-is c.args.left c.from.result c.args.width c.ranges.left (record { sfits = c.from.type_inv }) c.ranges.width.fits c.from.ensures c.requires

pub overflow_cast-result-2 : goal.overflow_cast-result-2
overflow_cast-result-2 c = end-fits c.args.left c.from.result c.args.width c.ranges.left (record { sfits = c.from.type_inv }) c.ranges.width.fits c.from.ensures c.requires
