use Rattle.canvas_paint.proofs.Banding.{AreCleared}
use Rattle.canvas_paint.proofs.bands.clear.Given as goal

abbrev pub invariant-loop-column : goal.invariant-loop-column
invariant-loop-column l = AreCleared l.column-index l.columns
