use Rattle.std.proofs.Common.{◌<◌, ◌^◌, arith}
use Rattle.canvas_shape.proofs.Bits.{lowest-there, lowest-before}
use Rattle.canvas_shape.proofs.flag_words.lowest.Goals as goal

pub returns-clause-there : goal.returns-clause-there
returns-clause-there c = let fits : c.args.word < 2 ^ 64 = omega arith in lowest-there c.args.word c.requires fits

pub returns-clause-before : goal.returns-clause-before
returns-clause-before c = let fits : c.args.word < 2 ^ 64 = omega arith in lowest-before c.args.word c.requires fits
