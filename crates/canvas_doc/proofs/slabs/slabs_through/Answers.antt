use Rattle.std.proofs.Common.{◌%◌, arith}
use Rattle.canvas_doc.proofs.boxes.Bits.{all-ones}
use Rattle.canvas_doc.proofs.slabs.slabs_through.Goals as goal

pub returns-in_default : goal.returns-in_default
returns-in_default c = record { bits = λ k low high. all-ones (k % 64) (omega arith) }
