use Rattle.canvas_doc.proofs.boxes.Bits.{through}
use Rattle.canvas_doc.proofs.slabs.bits_through.Goals as goal

pub returns : goal.returns
returns c = λ i le. through c.args.bit i c.requires le
