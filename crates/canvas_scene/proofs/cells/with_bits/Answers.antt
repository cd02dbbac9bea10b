use Rattle.canvas_scene.proofs.Bits.{or-bit}
use Rattle.canvas_scene.proofs.cells.with_bits.Goals as goal

pub returns : goal.returns
returns c = λ k. or-bit c.args.word c.args.more k
