use Rattle.canvas_doc.proofs.boxes.Bits.{has-and}
use Rattle.canvas_doc.proofs.slabs.both.Goals as goal

pub returns : goal.returns
returns c = λ i. has-and c.args.a c.args.b i
