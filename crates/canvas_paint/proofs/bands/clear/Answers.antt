use Rattle.std.proofs.Common.{arith}
use Rattle.canvas_paint.proofs.Banding.{all-cleared}
use Rattle.canvas_paint.proofs.bands.clear.Goals as goal

pub returns-clause-new : goal.returns-clause-new
returns-clause-new c = λ k d lt. c.loop-column.invariant.new k d (omega arith)

pub returns-clause-empty : goal.returns-clause-empty
returns-clause-empty c = all-cleared c.loop-column.column-index c.loop-column.columns (omega arith) (omega arith) c.loop-column.invariant
