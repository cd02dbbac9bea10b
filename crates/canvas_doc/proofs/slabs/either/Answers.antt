use Rattle.canvas_doc.proofs.boxes.Bits.{has-or}
use Rattle.canvas_doc.proofs.slabs.either.Goals as goal

pub returns : goal.returns
returns c = λ i. has-or c.args.a c.args.b i
