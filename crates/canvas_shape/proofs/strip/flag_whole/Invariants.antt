use Rattle.std.proofs.Common.{◌≡◌, ℕ, ◌+◌, ◌<◌, ◌≤◌, get_or, ◌&&◌}
use Rattle.std.specs.Prelude.{nat_lt}
use Rattle.canvas_plane.specs.Motion.{not_same}
use Rattle.canvas_plane.specs.Window.{column_shown, row_shown}
use Rattle.canvas_shape.specs.declared.edge_flags.EdgeFlags.{EdgeFlags}
use Rattle.canvas_shape.specs.Edges.{counts}
use Rattle.canvas_shape.specs.Flags.{is_held}
use Rattle.canvas_shape.proofs.strip.flag_whole.Given as goal

abbrev pub invariant-loop-k : goal.invariant-loop-k
invariant-loop-k l = record {
  before : (j i : ℕ) (d : EdgeFlags) → j < l.k → is_held (get_or l.rows j d).words i ≡ not_same (is_held (get_or l.initial.rows j d).words i) (nat_lt i l.grid.window.w && counts l.fn.from l.fn.to (column_shown l.grid.window i) (row_shown l.grid.window (l.grid.first + j)));
  after : (j : ℕ) (d : EdgeFlags) → l.k ≤ j → get_or l.rows j d ≡ get_or l.initial.rows j d;
}
