-- The box of vertices.
use Rattle.std.specs.Prelude.{List, [], ◌∷◌, pos, ◌≤ℤ◌}
use Rattle.std.specs.Int.{int_min, int_max}
use Rattle.canvas_plane.specs.declared.Point.{Point}
use Rattle.canvas_plane.specs.declared.PageBox.{PageBox}

-- the box from the point to itself
abbrev pub dot_of : Point → PageBox
dot_of p = record { left = p.x; top = p.y; right = p.x; bottom = p.y }

-- the box with a point more
abbrev pub grown_to : PageBox → Point → PageBox
grown_to b p = record { left = int_min b.left p.x; top = int_min b.top p.y; right = int_max b.right p.x; bottom = int_max b.bottom p.y }

abbrev pub grown_along : PageBox → List Point → PageBox
grown_along b [] = b
grown_along b (p ∷ ps) = grown_along (grown_to b p) ps

-- from the least to the greatest coordinates
abbrev pub bounds_of : List Point → PageBox
bounds_of [] = record { left = pos 0; top = pos 0; right = pos 0; bottom = pos 0 }
bounds_of (p ∷ ps) = grown_along (dot_of p) (p ∷ ps)

-- the point is in the box or on its edges
pub record IsAmong (b : PageBox) (p : Point) : Type 0 where
  pub left : b.left ≤ℤ p.x
  pub right : p.x ≤ℤ b.right
  pub top : b.top ≤ℤ p.y
  pub bottom : p.y ≤ℤ b.bottom
