use Rattle.std.proofs.Common.{pos, ◌*ℤ◌, ◌+ℤ◌, ◌^◌, lit<}
use Rattle.canvas_shape.proofs.Sizes.{word-fits, word-is, word-small, centre-words, centre-size}
use Rattle.canvas_shape.proofs.polygon.centre.Goals as goal

pub overflow_add-result : goal.overflow_add-result
overflow_add-result c = word-fits _ (pos 2 *ℤ c.args.at +ℤ pos 1) (2 ^ 32) (centre-words c.args.at c.from.result c.ranges.at (record { sfits = c.from.type_inv }) c.from.ensures) (centre-size c.args.at c.ranges.at) (lit< tt)

pub returns-clause-value : goal.returns-clause-value
returns-clause-value c = word-is _ (pos 2 *ℤ c.args.at +ℤ pos 1) (2 ^ 32) (centre-words c.args.at c.from.result c.ranges.at (record { sfits = c.from.type_inv }) c.from.ensures) (centre-size c.args.at c.ranges.at) (lit< tt)

pub returns-clause-bound : goal.returns-clause-bound
returns-clause-bound c = word-small _ (pos 2 *ℤ c.args.at +ℤ pos 1) (2 ^ 32) (centre-words c.args.at c.from.result c.ranges.at (record { sfits = c.from.type_inv }) c.from.ensures) (centre-size c.args.at c.ranges.at) (lit< tt)
