use Rattle.canvas_paint.proofs.Choosing.{IsChoosing}
use Rattle.canvas_paint.proofs.column.choose.Given as goal

abbrev pub invariant-loop-left : goal.invariant-loop-left
invariant-loop-left l = IsChoosing l.width l.blocks l.active.items l.left l.y l.base l.free l.end

abbrev pub decreases-loop-left : goal.decreases-loop-left
decreases-loop-left l = l.left
