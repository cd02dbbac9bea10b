-- Leaves that were carried to the page.
use Rattle.std.specs.Prelude.{ℤ, Bool}
use Rattle.canvas_plane.specs.declared.PageBox.{PageBox}
use Rattle.canvas_plane.specs.Page.{is_in}
use Rattle.canvas_shape.specs.Ellipse.{is_in_ellipse}
use Rattle.canvas_shape.specs.Edges.{is_in_polygon}
use Rattle.canvas_shape.specs.Bounds.{bounds_of}
use Rattle.canvas_shape.specs.declared.parts.LeafBox.{LeafBox}
use Rattle.canvas_shape.specs.declared.Carried.{Carried}
use Rattle.canvas_shape.specs.declared.Carried.TheVariants.{Rect, Ellipse, Polygon}

abbrev pub sides_of : LeafBox → PageBox
sides_of b = record { left = b.left; top = b.top; right = b.right; bottom = b.bottom }

-- a carried leaf holds the pixel
abbrev pub carried_holds : Carried → ℤ → ℤ → Bool
carried_holds (Rect b) x y = is_in (sides_of b) x y
carried_holds (Ellipse b) x y = is_in_ellipse (sides_of b) x y
carried_holds (Polygon v) x y = is_in_polygon v.points.now x y

-- the carried box
abbrev pub page_box_of : Carried → PageBox
page_box_of (Rect b) = sides_of b
page_box_of (Ellipse b) = sides_of b
page_box_of (Polygon v) = bounds_of v.points.now
