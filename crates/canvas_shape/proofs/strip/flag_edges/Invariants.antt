use Rattle.std.proofs.Common.{◌≡◌, ℕ, ◌+◌, ◌<◌, ◌≤◌, ◌^◌, ◌&&◌, drop, get_or, length}
use Rattle.std.specs.Prelude.{nat_lt}
use Rattle.canvas_plane.specs.Motion.{not_same, size_of}
use Rattle.canvas_shape.specs.declared.edge_flags.EdgeFlags.{EdgeFlags}
use Rattle.canvas_shape.specs.Edges.{is_odd_along}
use Rattle.canvas_shape.specs.Flags.{is_held}
use Rattle.canvas_plane.specs.Window.{column_shown, row_shown}
use Rattle.canvas_shape.proofs.strip.flag_edges.Given as goal

abbrev pub invariant-loop-to : goal.invariant-loop-to
invariant-loop-to l = record {
  counted : (k i : ℕ) (d : EdgeFlags) → k < length l.rows → not_same (is_held (get_or l.rows k d).words i) (nat_lt i l.grid.window.w && is_odd_along l.from (drop l.to-index l.points) (column_shown l.grid.window i) (row_shown l.grid.window (l.grid.first + k))) ≡ (nat_lt i l.grid.window.w && is_odd_along l.initial.from l.points (column_shown l.grid.window i) (row_shown l.grid.window (l.grid.first + k)));
  near : size_of l.from ≤ 2 ^ 27;
}
