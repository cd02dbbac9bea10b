use Rattle.canvas_shape.proofs.Leans.{offset-fits, offset-is}
use Rattle.canvas_shape.proofs.ellipse.less.Goals as goal

pub overflow_sub-result-2 : goal.overflow_sub-result-2
overflow_sub-result-2 c = offset-fits c.args.a c.args.b c.args.c c.ranges.a c.ranges.b c.requires.first c.requires.second c.requires.third

pub returns : goal.returns
returns c = offset-is c.args.a c.args.b c.args.c c.ranges.a c.ranges.b c.requires.first c.requires.second c.requires.third
