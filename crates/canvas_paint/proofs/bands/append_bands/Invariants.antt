use Rattle.std.proofs.Common.{◌≡◌, ◌-◌, ◌≤◌, ◌++◌, length}
use Rattle.canvas_paint.specs.Pictures.{raster_of}
use Rattle.canvas_paint.specs.Blocks.{shown}
use Rattle.canvas_paint.proofs.bands.append_bands.Given as goal

abbrev pub invariant-loop-at : goal.invariant-loop-at
invariant-loop-at l = record {
  low : l.first ≤ l.at;
  high : l.at ≤ l.end;
  bytes : l.out.items ≡ l.initial.out.items ++ raster_of (shown l.blocks) (length l.initial.row) l.first (l.at - l.first);
}

abbrev pub decreases-loop-at : goal.decreases-loop-at
decreases-loop-at l = l.end - l.at
