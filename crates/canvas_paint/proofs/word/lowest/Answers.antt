use Rattle.std.proofs.Common.{◌<◌, ◌^◌, arith}
use Rattle.canvas_paint.proofs.Bits.{lowest-is}
use Rattle.canvas_paint.proofs.word.lowest.Goals as goal

pub returns : goal.returns
returns c = let fits : c.args.word < 2 ^ 64 = omega arith in lowest-is c.args.word fits
