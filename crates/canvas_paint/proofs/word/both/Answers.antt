use Rattle.canvas_paint.proofs.Bits.{has-and}
use Rattle.canvas_paint.proofs.word.both.Goals as goal

pub returns : goal.returns
returns c = λ i h. has-and c.args.a c.args.b i
