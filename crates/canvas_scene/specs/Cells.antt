-- The cells of what a window covers: squares of 2^shift by 2^shift pixels from its left top corner on, at its right and bottom edges what of them lies in it.
use Rattle.std.specs.Prelude.{ℕ, List, get_or, ℤ, Bool, ◌&&◌}
use Rattle.canvas_shape.specs.Spans.{is_from_to}
use Rattle.canvas_scene.specs.declared.cells.Cells.{Cells}
use Rattle.canvas_scene.specs.Places.{cell_of, is_bit}

-- the cell in this column and row is marked, where each row of cells is a word
abbrev pub is_marked : List ℕ → ℕ → ℕ → Bool
is_marked rows column row = is_bit (get_or rows row 0) column

-- the pixel is one of those that the window covers, in a marked cell
abbrev pub is_covered : Cells → ℤ → ℤ → Bool
is_covered cells x y =
    (is_from_to cells.across.start x cells.across.end && is_from_to cells.down.start y cells.down.end)
    && is_marked cells.rows (cell_of cells.across.start cells.across.shift x) (cell_of cells.down.start cells.down.shift y)
