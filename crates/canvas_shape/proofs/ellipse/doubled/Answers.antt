use Rattle.std.proofs.Common.{pos, ◌*ℤ◌, ◌^◌, ◌*◌, lit<}
use Rattle.canvas_shape.proofs.Sizes.{word-is, word-small, double-words, double-size}
use Rattle.canvas_shape.proofs.ellipse.doubled.Goals as goal

pub returns-clause-value : goal.returns-clause-value
returns-clause-value c = word-is _ (pos 2 *ℤ c.args.from) (2 * 2 ^ 28) (double-words c.args.from c.ranges.from) (double-size c.args.from (2 ^ 28) c.requires) (lit< tt)

pub returns-clause-bound : goal.returns-clause-bound
returns-clause-bound c = word-small _ (pos 2 *ℤ c.args.from) (2 * 2 ^ 28) (double-words c.args.from c.ranges.from) (double-size c.args.from (2 ^ 28) c.requires) (lit< tt)
