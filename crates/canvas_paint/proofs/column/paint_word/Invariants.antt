use Rattle.std.proofs.Common.{◌-◌, length}
use Rattle.canvas_paint.proofs.Painting.{IsPainting}
use Rattle.canvas_paint.proofs.column.paint_word.Given as goal

abbrev pub invariant-loop-at : goal.invariant-loop-at
invariant-loop-at l = IsPainting l.active l.at l.base l.pixels l.free l.initial.row l.row

abbrev pub decreases-loop-at : goal.decreases-loop-at
decreases-loop-at l = length l.active - l.at
