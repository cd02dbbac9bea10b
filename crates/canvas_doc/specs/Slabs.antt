-- Columns and rows of a plane, as bits of words.
use Rattle.std.specs.Prelude.{◌≡◌, ◌≤◌, ◌<◌, ◌/◌, ◌%◌, ◌^◌, ◌+ℤ◌, ℕ, ℤ, pos, true, unsigned_abs}
use Rattle.canvas_shape.specs.Words.{has}

-- how many coordinates come before one
abbrev pub rank : ℤ → ℕ
rank x = unsigned_abs (x +ℤ pos (2 ^ 31))

-- a word has the slabs from one number through another
pub record HasSlabsThrough (first last word : ℕ) : Type 0 where
  pub bits : (k : ℕ) → first ≤ k → k ≤ last → has word (k % 64) ≡ true

-- a word has the slabs in which coordinates from one up to another lie
pub record HasSlabs (from to : ℤ) (word : ℕ) : Type 0 where
  pub bits : (n : ℕ) → rank from ≤ n → n < rank to → has word (n / 256 % 64) ≡ true
