use Rattle.std.proofs.Common.{◌≡◌, ℕ, ◌+◌, ◌*◌, ◌^◌, ◌<◌, ◌≤◌, get_or, ◌&&◌, unsigned_abs}
use Rattle.std.specs.Prelude.{nat_lt}
use Rattle.canvas_plane.specs.Motion.{not_same}
use Rattle.canvas_shape.specs.declared.edge_flags.EdgeFlags.{EdgeFlags}
use Rattle.canvas_shape.specs.Edges.{counts}
use Rattle.canvas_plane.specs.Sides.{scale_of}
use Rattle.canvas_plane.specs.Window.{column_shown, row_shown}
use Rattle.canvas_shape.specs.Flags.{is_held}
use Rattle.canvas_shape.specs.Lines.{Follows}
use Rattle.canvas_shape.proofs.strip.flag_crossed.Given as goal

abbrev pub invariant-loop-k : goal.invariant-loop-k
invariant-loop-k l = record {
  line : Follows l.fn.from l.fn.to (scale_of l.grid.window.level) (row_shown l.grid.window (l.grid.first + l.k)) l.line;
  x : unsigned_abs l.line.x ≤ 2 ^ 27;
  here : unsigned_abs l.line.here.whole ≤ 2 ^ 62 + l.k * 2 ^ 36;
  step : unsigned_abs l.line.step.whole ≤ 2 ^ 35;
  before : (j i : ℕ) (d : EdgeFlags) → j < l.k → is_held (get_or l.rows j d).words i ≡ not_same (is_held (get_or l.initial.rows j d).words i) (nat_lt i l.grid.window.w && counts l.fn.from l.fn.to (column_shown l.grid.window i) (row_shown l.grid.window (l.grid.first + j)));
  after : (j : ℕ) (d : EdgeFlags) → l.k ≤ j → get_or l.rows j d ≡ get_or l.initial.rows j d;
}
