use Rattle.std.proofs.Common.{pos, ◌-ℤ◌, ◌+ℤ◌, ◌^◌, lit<}
use Rattle.canvas_shape.proofs.Leans.{raised-words, raised-size}
use Rattle.canvas_shape.proofs.Sizes.{word-fits, word-is, word-small}
use Rattle.canvas_shape.proofs.polygon.raised.Goals as goal

pub overflow_sub-result : goal.overflow_sub-result
overflow_sub-result c = word-fits _ ((c.args.lean +ℤ pos c.args.rise) -ℤ pos 1) (2 ^ 62) (raised-words c.args.lean c.args.rise c.ranges.lean c.requires.small c.requires.height.1) (raised-size c.args.lean c.args.rise c.requires.small c.requires.height.1) (lit< tt)

pub returns-clause-value : goal.returns-clause-value
returns-clause-value c = word-is _ ((c.args.lean +ℤ pos c.args.rise) -ℤ pos 1) (2 ^ 62) (raised-words c.args.lean c.args.rise c.ranges.lean c.requires.small c.requires.height.1) (raised-size c.args.lean c.args.rise c.requires.small c.requires.height.1) (lit< tt)

pub returns-clause-bound : goal.returns-clause-bound
returns-clause-bound c = word-small _ ((c.args.lean +ℤ pos c.args.rise) -ℤ pos 1) (2 ^ 62) (raised-words c.args.lean c.args.rise c.ranges.lean c.requires.small c.requires.height.1) (raised-size c.args.lean c.args.rise c.requires.small c.requires.height.1) (lit< tt)
