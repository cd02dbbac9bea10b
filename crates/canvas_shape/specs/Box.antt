-- The box of a leaf, where `out` carries its own points to the page.
use Rattle.std.specs.Prelude.{ℕ, ◌≤◌, ◌<◌, ℤ, pos, ◌-ℤ◌, unsigned_abs}
use Rattle.std.specs.Int.{int_min, int_max}
use Rattle.canvas_plane.specs.declared.Point.{Point}
use Rattle.canvas_plane.specs.declared.PageBox.{PageBox}

-- from the least to the greatest coordinates
abbrev pub box_between : Point → Point → PageBox
box_between p q = record { left = int_min p.x q.x; top = int_min p.y q.y; right = int_max p.x q.x; bottom = int_max p.y q.y }

-- the carried box of a leaf of w by h
abbrev pub box_of : (Point → Point) → ℕ → ℕ → PageBox
box_of out w h = box_between (out (record { x = pos 0; y = pos 0 })) (out (record { x = pos w; y = pos h }))

-- the sides are 1 to 65,536
abbrev pub AreSides : ℕ → ℕ → Type 0
AreSides w h = ((0 < w) × (w ≤ 65536)) × ((0 < h) × (h ≤ 65536))

-- the two lie 1 to 65,536 apart
pub record AreSideEnds (s t : ℤ) : Type 0 where
  pub least : 1 ≤ unsigned_abs (t -ℤ s)
  pub most : unsigned_abs (t -ℤ s) ≤ 65536
