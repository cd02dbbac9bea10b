-- Items of a display list, back to front, and the colour that the last of them gives (the painter's algorithm).
use Rattle.std.specs.Prelude.{List, [], ◌∷◌, Bool, cond, ◌&&◌, Option, Some, None, ℤ}
use Rattle.canvas_plane.specs.Page.{is_in}
use Rattle.canvas_shape.specs.declared.Colour.{Colour}
use Rattle.canvas_shape.specs.Leaves.{carried_holds}
use Rattle.canvas_record.specs.Picture.{or_else, or_white}
use Rattle.canvas_paint.specs.declared.item.Item.{Item}

-- leaf and clip both hold the pixel
abbrev pub item_holds : Item → ℤ → ℤ → Bool
item_holds i x y = carried_holds i.leaf x y && is_in i.clip x y

-- the item's fill where it holds the pixel
abbrev pub fill_at : Item → ℤ → ℤ → Option Colour
fill_at i x y = cond (item_holds i x y) (Some i.fill) None

-- the fill of the last item that holds the pixel
abbrev pub last_fill : List Item → ℤ → ℤ → Option Colour
last_fill [] x y = None
last_fill (i ∷ is) x y = or_else (last_fill is x y) (fill_at i x y)

-- the fill of the last item that holds the pixel, else white
abbrev pub last_colour : List Item → ℤ → ℤ → Colour
last_colour is x y = or_white (last_fill is x y)
