-- What a writer behind a gate has handed on.
use Rattle.std.specs.Prelude.{◌≡◌, ℕ, ◌≤◌, List, Option, length, ◌⊎◌}
use Rattle.std.specs.Io.KnownBytes.{Appends}

-- the gate was asked about at least so many bytes, or there are none
abbrev pub AreSettled : (ℕ → Type 0) → ℕ → Type 0
AreSettled settled n = (n ≡ 0) ⊎ ((put_in : ℕ) × (n ≤ put_in) × settled put_in)

-- so many bytes were handed on to a writer that held some at first, and all were settled before
abbrev pub HasPassed : (ℕ → Type 0) → Option (List ℕ) → Option (List ℕ) → ℕ → Type 0
HasPassed settled begun now n = (bytes : List ℕ) × Appends begun now bytes × (length bytes ≡ n) × AreSettled settled n
