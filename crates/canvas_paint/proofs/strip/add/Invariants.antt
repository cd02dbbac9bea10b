use Rattle.canvas_paint.proofs.Columns.{AreAdding}
use Rattle.canvas_paint.proofs.strip.add.Given as goal

abbrev pub invariant-loop-k : goal.invariant-loop-k
invariant-loop-k l = AreAdding l.block l.k l.initial.columns l.columns
