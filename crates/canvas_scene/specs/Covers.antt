-- Items from front to back, and the boxes and cells that they hide.
use Rattle.std.specs.Prelude.{◌≡◌, List, [], ◌∷◌, Bool, true, false, Option, Some, None, ℤ}
use Rattle.canvas_plane.specs.declared.PageBox.{PageBox}
use Rattle.canvas_plane.specs.Page.{is_in}
use Rattle.canvas_shape.specs.declared.Colour.{Colour}
use Rattle.canvas_record.specs.Picture.{or_else}
use Rattle.canvas_scene.specs.declared.cells.Cells.{Cells}
use Rattle.canvas_paint.specs.declared.item.Item.{Item}
use Rattle.canvas_scene.specs.Cells.{is_covered}
use Rattle.canvas_paint.specs.Items.{fill_at}

-- the fill of the first item that holds the pixel
abbrev pub first_fill : List Item → ℤ → ℤ → Option Colour
first_fill [] x y = None
first_fill (i ∷ is) x y = or_else (fill_at i x y) (first_fill is x y)

-- there is a fill
abbrev pub is_filled : Option Colour → Bool
is_filled None = false
is_filled (Some c) = true

-- nothing behind the items shows in the box: each of its pixels has a fill already
abbrev pub IsHidden : List Item → PageBox → Type 0
IsHidden items box = (x y : ℤ) → is_in box x y ≡ true → is_filled (first_fill items x y) ≡ true

-- nothing behind the items shows in a marked cell
abbrev pub AreCellsHidden : List Item → Cells → Type 0
AreCellsHidden items cells = (x y : ℤ) → is_covered cells x y ≡ true → is_filled (first_fill items x y) ≡ true
