-- Which pixels a kind holds, where `out` carries its own points to the page.
use Rattle.std.specs.Prelude.{◌≤◌, ◌^◌, ℤ, Bool, false, List, length, map, All}
use Rattle.canvas_plane.specs.declared.Point.{Point}
use Rattle.canvas_plane.specs.Motion.{size_of}
use Rattle.canvas_plane.specs.Page.{is_in}
use Rattle.canvas_shape.specs.Box.{box_of, AreSides}
use Rattle.canvas_shape.specs.Edges.{is_in_polygon}
use Rattle.canvas_shape.specs.Ellipse.{is_in_ellipse}
use Rattle.canvas_shape.specs.declared.Kind.{Kind}
use Rattle.canvas_shape.specs.declared.Kind.TheVariants.{Group, Frame, Rect, Ellipse, Polygon}

-- a leaf, or a frame's box, holds the pixel
abbrev pub holds_of : Kind → (Point → Point) → ℤ → ℤ → Bool
holds_of Group out x y = false
holds_of (Frame w h fill) out x y = is_in (box_of out w h) x y
holds_of (Rect w h fill) out x y = is_in (box_of out w h) x y
holds_of (Ellipse w h fill) out x y = is_in_ellipse (box_of out w h) x y
holds_of (Polygon points fill) out x y = is_in_polygon (map out points) x y

-- 3 to 256 vertices, with coordinates of at most 2^20 in size
pub record AreVertices (points : List Point) : Type 0 where
  pub least : 3 ≤ length points
  pub most : length points ≤ 256
  pub near : All (λ p. size_of p ≤ 2 ^ 20) points

-- sides and vertices are within their limits
abbrev pub IsSound : Kind → Type 0
IsSound Group = Unit {0}
IsSound (Frame w h fill) = AreSides w h
IsSound (Rect w h fill) = AreSides w h
IsSound (Ellipse w h fill) = AreSides w h
IsSound (Polygon points fill) = AreVertices points
