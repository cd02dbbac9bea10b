use Rattle.canvas_doc.proofs.boxes.Bits.{from-on}
use Rattle.canvas_doc.proofs.slabs.bits_from.Goals as goal

pub returns : goal.returns
returns c = λ i low high. from-on c.args.bit i c.requires low high
