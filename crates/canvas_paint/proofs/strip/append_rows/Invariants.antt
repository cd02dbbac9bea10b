use Rattle.std.proofs.Common.{◌≡◌, ◌-◌, ◌++◌, length}
use Rattle.canvas_paint.specs.Pictures.{raster_of}
use Rattle.canvas_paint.specs.Columns.{AreColumns, blocks_in, shown_in}
use Rattle.canvas_paint.proofs.strip.append_rows.Given as goal

abbrev pub invariant-loop-y : goal.invariant-loop-y
invariant-loop-y l = record {
  kept : AreColumns l.row l.columns l.y;
  blocks : blocks_in l.columns ≡ blocks_in l.initial.columns;
  bytes : l.out.items ≡ l.initial.out.items ++ raster_of (shown_in (blocks_in l.initial.columns)) (length l.initial.row) l.first (l.y - l.first);
}
