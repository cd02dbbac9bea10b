use Rattle.std.proofs.Common.{◌^◌, ◌+◌, ◌-ℤ◌, lit<}
use Rattle.canvas_shape.proofs.Sizes.{word-fits, word-is, word-small, difference-words, difference-size}
use Rattle.canvas_shape.proofs.polygon.minus.Goals as goal

pub overflow_sub-result : goal.overflow_sub-result
overflow_sub-result c = word-fits _ (c.args.a -ℤ c.args.b) (2 ^ 27 + 2 ^ 27) (difference-words c.args.a c.args.b c.ranges.a c.ranges.b) (difference-size c.args.a c.args.b (2 ^ 27) (2 ^ 27) c.requires.first c.requires.second) (lit< tt)

pub returns-clause-value : goal.returns-clause-value
returns-clause-value c = word-is _ (c.args.a -ℤ c.args.b) (2 ^ 27 + 2 ^ 27) (difference-words c.args.a c.args.b c.ranges.a c.ranges.b) (difference-size c.args.a c.args.b (2 ^ 27) (2 ^ 27) c.requires.first c.requires.second) (lit< tt)

pub returns-clause-bound : goal.returns-clause-bound
returns-clause-bound c = word-small _ (c.args.a -ℤ c.args.b) (2 ^ 27 + 2 ^ 27) (difference-words c.args.a c.args.b c.ranges.a c.ranges.b) (difference-size c.args.a c.args.b (2 ^ 27) (2 ^ 27) c.requires.first c.requires.second) (lit< tt)
