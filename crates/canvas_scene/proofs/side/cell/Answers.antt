use Rattle.std.proofs.lemmas.Nat.{one_shl}
use Rattle.std.proofs.Common.{arith}
use Rattle.canvas_scene.proofs.side.cell.Goals as goal

pub returns : goal.returns
returns c = one_shl c.args.shift 32 (omega arith)
