use Rattle.std.proofs.Common.{◌≡◌, ◌-◌, ◌+◌, ℕ, ◌<◌, ◌≤◌, [], get_or}
use Rattle.canvas_shape.specs.Leaves.{sides_of}
use Rattle.canvas_shape.specs.Ellipse.{is_in_ellipse}
use Rattle.canvas_plane.specs.Window.{column_shown, row_shown}
use Rattle.canvas_paint.specs.Blocks.{row_has}
use Rattle.canvas_paint.proofs.leaf.ellipse_rows.Given as goal

abbrev pub invariant-loop-k : goal.invariant-loop-k
invariant-loop-k l = (k j : ℕ) → k < l.window.w → l.top ≤ j → j < l.top + l.k → row_has (get_or l.words (j - l.top) []) k ≡ is_in_ellipse (sides_of l.sides) (column_shown l.window k) (row_shown l.window j)
