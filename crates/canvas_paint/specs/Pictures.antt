-- Pictures as bytes: rows from the top, pixels from the left, red, green and blue of each (the raster of Netpbm's ppm).
use Rattle.std.specs.Prelude.{ℕ, zero, suc, ◌+◌, ◌-◌, List, [], ◌++◌, ℤ}
use Rattle.canvas_plane.specs.declared.windows.Window.{Window}
use Rattle.canvas_plane.specs.Window.{column_shown, row_shown}
use Rattle.canvas_shape.specs.declared.Colour.{Colour}

-- the bytes of w pixels of a row, from the column x on, where `pixel` gives the bytes of a column
abbrev pub row_of : (ℕ → List ℕ) → ℕ → ℕ → List ℕ
row_of pixel x zero = []
row_of pixel x (suc w) = pixel x ++ row_of pixel (x + 1) w

-- the bytes of n rows of w pixels, from the row y on, where `pixel` gives the bytes of a column and a row
abbrev pub raster_of : (ℕ → ℕ → List ℕ) → ℕ → ℕ → ℕ → List ℕ
raster_of pixel w y zero = []
raster_of pixel w y (suc n) = row_of (λ x. pixel x y) 0 w ++ raster_of pixel w (y + 1) n

-- the bytes of a window's column and row: those of the page's pixel that is shown there, where `colour` gives the colour of a pixel of the page
abbrev pub bytes_at : (ℤ → ℤ → Colour) → Window → ℕ → ℕ → List ℕ
bytes_at colour window i j = (colour (column_shown window i) (row_shown window j)).0

-- the bytes of a window's rows from one up to another
abbrev pub rows_of : (ℤ → ℤ → Colour) → Window → ℕ → ℕ → List ℕ
rows_of colour window first end = raster_of (bytes_at colour window) window.w first (end - first)

-- the picture of a window: its colours, row by row
abbrev pub picture_of : (ℤ → ℤ → Colour) → Window → List ℕ
picture_of colour window = rows_of colour window 0 window.h
