-- Poses as functions on points: a flip, then quarter turns, then a translation.
use Rattle.std.specs.Prelude.{ℕ, ◌+◌, ◌%◌, ◌-◌, ◌+ℤ◌, Bool, true, false, zero, suc, unsigned_abs, max, not}
use mathlib.Core.Bool.{beq}
use Rattle.canvas_plane.specs.declared.Point.{Point}
use Rattle.canvas_plane.specs.declared.Pose.{Pose}
use lib.IntN.{neg_ℤ}

-- (x, y) becomes (-x, y)
abbrev pub flipped : Bool → Point → Point
flipped false p = p
flipped true p = record { x = neg_ℤ p.x; y = p.y }

-- (x, y) becomes (-y, x), so often
abbrev pub turned : ℕ → Point → Point
turned zero p = p
turned (suc n) p = record { x = neg_ℤ (turned n p).y; y = (turned n p).x }

abbrev pub moved : Point → Point → Point
moved by p = record { x = p.x +ℤ by.x; y = p.y +ℤ by.y }

-- the translation, as the place of the origin
abbrev pub place_of : Pose → Point
place_of a = record { x = a.dx; y = a.dy }

-- where a pose carries a point
abbrev pub carry : Pose → Point → Point
carry a p = moved (place_of a) (turned a.quarter (flipped a.flip p))

-- the greater size of the two parts of the translation
abbrev pub reach_of : Pose → ℕ
reach_of a = max (unsigned_abs a.dx) (unsigned_abs a.dy)

-- the greater size of the two coordinates
abbrev pub size_of : Point → ℕ
size_of p = max (unsigned_abs p.x) (unsigned_abs p.y)

-- exactly one of the two
abbrev pub not_same : Bool → Bool → Bool
not_same a b = not (beq a b)

-- how many turns a composition has, where the second pose may flip
abbrev pub turns_of : Bool → ℕ → ℕ → ℕ
turns_of false a b = (a + b) % 4
turns_of true a b = (4 - a + b) % 4

-- (x, y) becomes (-x, -y)
abbrev pub negated : Point → Point
negated p = record { x = neg_ℤ p.x; y = neg_ℤ p.y }

-- how many turns an inverse has, where the pose may flip
abbrev pub turns_back : Bool → ℕ → ℕ
turns_back false a = (4 - a) % 4
turns_back true a = a
