use Rattle.canvas_paint.proofs.Bits.{has-or}
use Rattle.canvas_paint.proofs.word.either.Goals as goal

pub returns : goal.returns
returns c = λ i h. has-or c.args.a c.args.b i
