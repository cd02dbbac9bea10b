use Rattle.std.specs.Prelude.{unsigned_abs}
use Rattle.std.proofs.Common.{◌+◌, ◌+ℤ◌}
use Rattle.canvas_shape.proofs.Sizes.{word-fits, word-is, word-small, sum-words, sum-size, sum-low}
use Rattle.canvas_shape.proofs.polygon.plus.Goals as goal

pub overflow_add-result : goal.overflow_add-result
overflow_add-result c = word-fits _ (c.args.a +ℤ c.args.b) (unsigned_abs c.args.a + unsigned_abs c.args.b) (sum-words c.args.a c.args.b c.ranges.a c.ranges.b) (sum-size c.args.a c.args.b) (sum-low (unsigned_abs c.args.a) (unsigned_abs c.args.b) c.requires.first c.requires.second)

pub returns-clause-value : goal.returns-clause-value
returns-clause-value c = word-is _ (c.args.a +ℤ c.args.b) (unsigned_abs c.args.a + unsigned_abs c.args.b) (sum-words c.args.a c.args.b c.ranges.a c.ranges.b) (sum-size c.args.a c.args.b) (sum-low (unsigned_abs c.args.a) (unsigned_abs c.args.b) c.requires.first c.requires.second)

pub returns-clause-bound : goal.returns-clause-bound
returns-clause-bound c = word-small _ (c.args.a +ℤ c.args.b) (unsigned_abs c.args.a + unsigned_abs c.args.b) (sum-words c.args.a c.args.b c.ranges.a c.ranges.b) (sum-size c.args.a c.args.b) (sum-low (unsigned_abs c.args.a) (unsigned_abs c.args.b) c.requires.first c.requires.second)
