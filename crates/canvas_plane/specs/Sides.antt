-- Levels, and the sides that a window may have.
use Rattle.std.specs.Prelude.{ℕ, ◌≤◌, ◌^◌, ℤ, pos, ◌+ℤ◌, ◌*ℤ◌, ◌≤ℤ◌, Bool, ◌&&◌, nat_le, int_le}
use lib.IntN.{neg_ℤ}

-- the page's pixels from one that is shown to the next, at a level
abbrev pub scale_of : ℕ → ℕ
scale_of level = 2 ^ level

-- a side of 1 to 256 pixels, the scale apart, from an edge of -2^21 or more up to one of 2^21 or less
pub record IsWindowSide (scale : ℕ) (from : ℤ) (size : ℕ) : Type 0 where
  pub least : 1 ≤ size
  pub most : size ≤ 256
  pub near : neg_ℤ (pos (2 ^ 21)) ≤ℤ (from *ℤ pos scale)
  pub far : ((from +ℤ pos size) *ℤ pos scale) ≤ℤ pos (2 ^ 21)

-- both edges lie in -2^21 to 2^21
abbrev pub is_near_enough : ℕ → ℤ → ℕ → Bool
is_near_enough scale from size = int_le (neg_ℤ (pos (2 ^ 21))) (from *ℤ pos scale) && int_le ((from +ℤ pos size) *ℤ pos scale) (pos (2 ^ 21))

-- the same as a test
abbrev pub is_window_side : ℕ → ℤ → ℕ → Bool
is_window_side scale from size = (nat_le 1 size && nat_le size 256) && is_near_enough scale from size

-- both sides may be a window's
abbrev pub is_window : ℕ → ℤ → ℤ → ℕ → ℕ → Bool
is_window scale x y w h = is_window_side scale x w && is_window_side scale y h
