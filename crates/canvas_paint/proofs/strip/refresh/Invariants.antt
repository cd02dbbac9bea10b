use Rattle.std.proofs.Common.{◌≡◌, ℕ, ◌<◌, get_or}
use Rattle.canvas_paint.specs.declared.column.Column.{Column}
use Rattle.canvas_paint.specs.Columns.{AreColumns, blocks_in}
use Rattle.canvas_paint.proofs.strip.refresh.Given as goal

abbrev pub invariant-loop-k : goal.invariant-loop-k
invariant-loop-k l = record {
  kept : AreColumns l.row l.columns l.y;
  blocks : blocks_in l.columns ≡ blocks_in l.initial.columns;
  live : (j : ℕ) (d : Column) → j < l.k → l.y < (get_or l.columns j d).until;
}
