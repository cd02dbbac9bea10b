-- Which pixels a polygon holds.
use Rattle.std.specs.Prelude.{List, [], ◌∷◌, ℤ, pos, ◌+ℤ◌, ◌-ℤ◌, ◌*ℤ◌, Bool, false, int_le, int_lt, ◌&&◌, cond}
use Rattle.canvas_plane.specs.declared.Point.{Point}
use Rattle.canvas_plane.specs.Motion.{not_same}

-- how the pixel's centre lies beside the line of the edge, with the edge's height as a factor
abbrev pub side_of : Point → Point → ℤ → ℤ → ℤ
side_of p q x y = (pos 2 *ℤ p.x -ℤ pos 2 *ℤ x -ℤ pos 1) *ℤ (q.y -ℤ p.y) +ℤ (pos 2 *ℤ y +ℤ pos 1 -ℤ pos 2 *ℤ p.y) *ℤ (q.x -ℤ p.x)

-- one end of the edge is above the row's centre line, and the other is not
abbrev pub crosses_row : Point → Point → ℤ → Bool
crosses_row p q y = not_same (int_le p.y y) (int_le q.y y)

-- the edge's line is to the right of the pixel's centre
abbrev pub is_right_of : Point → Point → ℤ → ℤ → Bool
is_right_of p q x y = cond (int_lt p.y q.y) (int_lt (pos 0) (side_of p q x y)) (int_lt (side_of p q x y) (pos 0))

-- the edge crosses the row's centre line to the right of the pixel's centre
abbrev pub counts : Point → Point → ℤ → ℤ → Bool
counts p q x y = crosses_row p q y && is_right_of p q x y

-- an odd number of the edges count, of those from p to the first vertex and from each vertex to the next
abbrev pub is_odd_along : Point → List Point → ℤ → ℤ → Bool
is_odd_along p [] x y = false
is_odd_along p (q ∷ qs) x y = not_same (counts p q x y) (is_odd_along q qs x y)

-- the last vertex
abbrev pub last_of : Point → List Point → Point
last_of p [] = p
last_of p (q ∷ qs) = last_of q qs

-- an odd number of edges count, the one from the last vertex to the first among them
abbrev pub is_in_polygon : List Point → ℤ → ℤ → Bool
is_in_polygon [] x y = false
is_in_polygon (p ∷ ps) x y = is_odd_along (last_of p ps) (p ∷ ps) x y
