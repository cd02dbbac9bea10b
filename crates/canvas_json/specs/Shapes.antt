-- Shapes: an object with the name of its kind, and that kind's members.
use Rattle.std.specs.Prelude.{ℕ, List, [], ◌∷◌, codes, Option, Some, None, option_map, option_and_then, is_some, if◌then◌else◌}
use Rattle.std.specs.Str.{bytes_eq}
use Rattle.serde_json.specs.Data.{Data, Items, no_items, item}
use Rattle.serde_json.specs.Find.{as_null, as_str, as_array}
use Rattle.canvas_plane.specs.declared.Point.{Point}
use Rattle.canvas_shape.specs.declared.Colour.{Colour}
use Rattle.canvas_shape.specs.declared.Kind.{Kind}
use Rattle.canvas_shape.specs.declared.Kind.TheVariants.{Group, Frame, Rect, Ellipse, Polygon}
use Rattle.canvas_shape.specs.Names.{colour_named}
use Rattle.canvas_json.specs.Json.{i32_of, u32_of, required, optional, ◌>>=◌}

-- a colour: a text of six hexadecimal digits of either case
unfoldable pub colour_of : Data → Option Colour
colour_of d = option_and_then colour_named (as_str d)

-- a frame's fill: null is none
unfoldable pub fill_of : Data → Option (Option Colour)
fill_of d = if is_some (as_null d) then Some None else option_map Some (colour_of d)

-- a list of two numbers is the point x, y
abbrev pub point_in : Items → Option Point
point_in (item x (item y no_items)) = do
  at_x ← i32_of x
  at_y ← i32_of y
  Some (record { x = at_x; y = at_y })
point_in _ = None

-- a point: a list
unfoldable pub point_of : Data → Option Point
point_of d = option_and_then point_in (as_array d)

-- the points of a list, if each item is one
abbrev pub points_in : Items → Option (List Point)
points_in no_items = Some []
points_in (item d rest) = do
  point ← point_of d
  points ← points_in rest
  Some (point ∷ points)

-- a polygon's points: a list of points
unfoldable pub points_of : Data → Option (List Point)
points_of d = option_and_then points_in (as_array d)

-- a frame: its sides, and a fill that may be left out
unfoldable pub frame_of : Data → Option Kind
frame_of d = do
  w ← required u32_of (codes "w") d
  h ← required u32_of (codes "h") d
  fill ← optional fill_of None (codes "fill") d
  Some (Frame w h fill)

-- a rectangle: its sides and its fill
unfoldable pub rect_of : Data → Option Kind
rect_of d = do
  w ← required u32_of (codes "w") d
  h ← required u32_of (codes "h") d
  fill ← required colour_of (codes "fill") d
  Some (Rect w h fill)

-- an ellipse: the sides of its box, and its fill
unfoldable pub ellipse_of : Data → Option Kind
ellipse_of d = do
  w ← required u32_of (codes "w") d
  h ← required u32_of (codes "h") d
  fill ← required colour_of (codes "fill") d
  Some (Ellipse w h fill)

-- a polygon: its fill and its points
unfoldable pub polygon_of : Data → Option Kind
polygon_of d = do
  fill ← required colour_of (codes "fill") d
  points ← required points_of (codes "points") d
  Some (Polygon points fill)

-- the shape of a kind
unfoldable pub shape_named : List ℕ → Data → Option Kind
shape_named kind d =
    if bytes_eq kind (codes "group") then Some Group
    else (if bytes_eq kind (codes "frame") then frame_of d
    else (if bytes_eq kind (codes "rect") then rect_of d
    else (if bytes_eq kind (codes "ellipse") then ellipse_of d
    else (if bytes_eq kind (codes "polygon") then polygon_of d
    else None))))

-- the shape of an object
unfoldable pub shape_of : Data → Option Kind
shape_of d = do
  kind ← required as_str (codes "kind") d
  shape_named kind d

-- the names of the members that a shape of a kind may have
unfoldable pub shape_members : List ℕ → List (List ℕ)
shape_members kind =
    if bytes_eq kind (codes "group") then codes "kind" ∷ []
    else (if bytes_eq kind (codes "polygon") then codes "fill" ∷ codes "kind" ∷ codes "points" ∷ []
    else codes "fill" ∷ codes "h" ∷ codes "kind" ∷ codes "w" ∷ [])
