use Rattle.canvas_paint.proofs.Hiding.{IsCutting}
use Rattle.canvas_paint.proofs.bands.blocks_of.Given as goal

abbrev pub invariant-loop-left : goal.invariant-loop-left
invariant-loop-left l = IsCutting l.window l.items l.blocks.items l.free l.left l.first l.end

abbrev pub decreases-loop-left : goal.decreases-loop-left
decreases-loop-left l = l.left
