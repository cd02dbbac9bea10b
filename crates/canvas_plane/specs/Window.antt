-- Windows: the pixels of the page that a picture shows.
use Rattle.std.specs.Prelude.{◌≡◌, ℕ, ℤ, pos, ◌+ℤ◌, ◌*ℤ◌}
use Rattle.canvas_plane.specs.declared.PageBox.{PageBox}
use Rattle.canvas_plane.specs.declared.windows.Window.{Window}
use Rattle.canvas_plane.specs.Sides.{scale_of}

-- the window has this level, this place and these sides
pub record IsWindowAt (level : ℕ) (x y : ℤ) (w h : ℕ) (window : Window) : Type 0 where
  pub at_level : window.level ≡ level
  pub left : window.x ≡ x
  pub top : window.y ≡ y
  pub width : window.w ≡ w
  pub height : window.h ≡ h

-- the column of the page that a column of the window shows
abbrev pub column_shown : Window → ℕ → ℤ
column_shown window i = (window.x +ℤ pos i) *ℤ pos (scale_of window.level)

-- the row of the page that a row of the window shows
abbrev pub row_shown : Window → ℕ → ℤ
row_shown window j = (window.y +ℤ pos j) *ℤ pos (scale_of window.level)

-- the box of the page that the window covers: from its first column and row up to those behind its last
abbrev pub covered_by : Window → PageBox
covered_by window = record { left = column_shown window 0; top = row_shown window 0; right = column_shown window window.w; bottom = row_shown window window.h }
