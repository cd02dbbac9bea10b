use Rattle.std.proofs.Common.{◌<◌, ◌^◌, arith}
use Rattle.canvas_paint.proofs.Bits.{has-without}
use Rattle.canvas_paint.proofs.word.without.Goals as goal

pub returns : goal.returns
returns c = λ i h. let fits : c.args.b < 2 ^ 64 = omega arith in has-without c.args.a c.args.b i fits h
