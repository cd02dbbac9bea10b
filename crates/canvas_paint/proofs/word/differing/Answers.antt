use Rattle.canvas_paint.proofs.Bits.{has-xor}
use Rattle.canvas_paint.proofs.word.differing.Goals as goal

pub returns : goal.returns
returns c = λ i h. has-xor c.args.a c.args.b i
