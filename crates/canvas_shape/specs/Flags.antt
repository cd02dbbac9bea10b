-- Edge flags of a row: flag i says that the row goes from held to not held, or back, behind column i.
use Rattle.std.specs.Prelude.{ℕ, zero, suc, ◌-◌, ◌/◌, ◌%◌, List, [], ◌∷◌, slice_index, Bool, false, cond, min, ℤ, pos, ◌+ℤ◌, ◌-ℤ◌, unsigned_abs}
use Rattle.canvas_plane.specs.Motion.{not_same}
use Rattle.canvas_shape.specs.Spans.{within}
use Rattle.canvas_shape.specs.Words.{has}

-- flag i is bit i % 64 of word i / 64
unfoldable pub flag : List ℕ → ℕ → Bool
flag words i = has (slice_index words (i / 64)) (i % 64)

-- an odd number of so many places, from one on, pass the test
unfoldable pub is_odd_among : (ℕ → Bool) → ℕ → ℕ → Bool
is_odd_among test from zero = false
is_odd_among test from (suc count) = not_same (test from) (is_odd_among test (suc from) count)

-- an odd number of flags stand at column i or right of it
unfoldable pub is_held : List ℕ → ℕ → Bool
is_held words i = is_odd_among (flag words) i (256 - i)

-- the held columns of a row that begins at `left` and is so wide
abbrev pub held_from : ℤ → ℕ → List ℕ → ℤ → Bool
held_from left width words = within left (left +ℤ pos width) (λ x. is_held words (unsigned_abs (x -ℤ left)))

-- the cuts behind the places that pass the test, none beyond the width
unfoldable pub cuts_behind : ℕ → (ℕ → Bool) → ℕ → ℕ → List ℕ
cuts_behind width test from zero = []
cuts_behind width test from (suc count) = cond (test from) (min (suc from) width ∷ cuts_behind width test (suc from) count) (cuts_behind width test (suc from) count)
