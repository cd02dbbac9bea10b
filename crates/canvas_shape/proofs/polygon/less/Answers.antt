use Rattle.std.proofs.Common.{◌^◌, ◌+◌, ◌-ℤ◌, lit<, le_trans, le_of_lt}
use Rattle.canvas_shape.proofs.Sizes.{word-fits, word-is, word-small, difference-words, difference-size}
use Rattle.canvas_shape.proofs.polygon.less.Goals as goal

pub overflow_sub-result : goal.overflow_sub-result
overflow_sub-result c = word-fits _ (c.args.a -ℤ c.args.b) (2 ^ 32 + 2 ^ 28) (difference-words c.args.a c.args.b c.ranges.a c.ranges.b) (difference-size c.args.a c.args.b (2 ^ 32) (2 ^ 28) c.requires.first c.requires.second) (lit< tt)

pub returns-clause-value : goal.returns-clause-value
returns-clause-value c = word-is _ (c.args.a -ℤ c.args.b) (2 ^ 32 + 2 ^ 28) (difference-words c.args.a c.args.b c.ranges.a c.ranges.b) (difference-size c.args.a c.args.b (2 ^ 32) (2 ^ 28) c.requires.first c.requires.second) (lit< tt)

pub returns-clause-bound : goal.returns-clause-bound
returns-clause-bound c = le_trans (word-small _ (c.args.a -ℤ c.args.b) (2 ^ 32 + 2 ^ 28) (difference-words c.args.a c.args.b c.ranges.a c.ranges.b) (difference-size c.args.a c.args.b (2 ^ 32) (2 ^ 28) c.requires.first c.requires.second) (lit< tt)) (le_of_lt (lit< tt))
