use Rattle.std.proofs.Common.{arith}
use Rattle.canvas_scene.proofs.Bits.{has-bit}
use Rattle.canvas_scene.proofs.cells.has_bits.Goals as goal

pub returns : goal.returns
returns c = λ h k g. has-bit c.args.word c.args.some k (grind arith) g
