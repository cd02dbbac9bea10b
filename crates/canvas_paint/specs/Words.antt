-- Words of 64 pixels: bit i is a pixel.
use Rattle.std.specs.Prelude.{◌≡◌, ℕ, ◌<◌, ◌≤◌, Bool, true, false, ◌&&◌, nat_le, nat_lt, ◌+◌, ◌-◌}
use Rattle.canvas_shape.specs.Words.{has}

-- a place is from the one up to the other
abbrev pub is_within : ℕ → ℕ → ℕ → Bool
is_within from x to = nat_le from x && nat_lt x to

-- the word has exactly the pixels of a test
abbrev pub IsWord : ℕ → (ℕ → Bool) → Type 0
IsWord word test = (i : ℕ) → i < 64 → has word i ≡ test i

-- the word has no pixel from the one place up to the other
abbrev pub HasNone : ℕ → ℕ → ℕ → Type 0
HasNone word from to = (i : ℕ) → from ≤ i → i < to → has word i ≡ false

-- the place of the first pixel, or 64
pub record IsLowest (word at : ℕ) : Type 0 where
  pub within : at ≤ 64
  pub before : HasNone word 0 at
  pub there : at < 64 → has word at ≡ true

-- the first pixels of a word that lie side by side, from a place on
pub record IsRun (word at from to : ℕ) : Type 0 where
  pub low : at ≤ from
  pub some : from < to
  pub high : to ≤ 64
  pub before : HasNone word at from
  pub inside : (i : ℕ) → from ≤ i → i < to → has word i ≡ true

-- the word, put down from the column `base` on, has the column x
abbrev pub covers : ℕ → ℕ → ℕ → Bool
covers base word x = is_within base x (base + 64) && has word (x - base)
