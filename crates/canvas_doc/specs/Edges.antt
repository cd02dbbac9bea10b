-- The edges of boxes: near the origin, or those of the whole plane.
use Rattle.std.specs.Prelude.{◌≡◌, ◌≤◌, ◌^◌, ◌-◌, ◌≤ℤ◌, ◌<ℤ◌, ℤ, pos, unsigned_abs}
use lib.IntN.{neg_ℤ}

-- no edge lies further than 2^27 from the origin
pub record AreNear (l t r b : ℤ) : Type 0 where
  pub left : neg_ℤ (pos (2 ^ 27)) ≤ℤ l
  pub top : neg_ℤ (pos (2 ^ 27)) ≤ℤ t
  pub right : r ≤ℤ pos (2 ^ 27)
  pub bottom : b ≤ℤ pos (2 ^ 27)

-- from the least number to the greatest
pub record AreWidest (l t r b : ℤ) : Type 0 where
  pub left : l ≡ neg_ℤ (pos (2 ^ 31))
  pub top : t ≡ neg_ℤ (pos (2 ^ 31))
  pub right : r ≡ pos (2 ^ 31 - 1)
  pub bottom : b ≡ pos (2 ^ 31 - 1)

-- in order, and near or the widest
pub record AreEdges (l t r b : ℤ) : Type 0 where
  pub across : l ≤ℤ r
  pub down : t ≤ℤ b
  pub near : neg_ℤ (pos (2 ^ 31)) <ℤ l → AreNear l t r b
  pub widest : l ≤ℤ neg_ℤ (pos (2 ^ 31)) → AreWidest l t r b

-- two points, each coordinate no further than 2^27 from the origin
pub record AreNearEnds (x y x' y' : ℤ) : Type 0 where
  pub left : unsigned_abs x ≤ 2 ^ 27
  pub top : unsigned_abs y ≤ 2 ^ 27
  pub right : unsigned_abs x' ≤ 2 ^ 27
  pub bottom : unsigned_abs y' ≤ 2 ^ 27
