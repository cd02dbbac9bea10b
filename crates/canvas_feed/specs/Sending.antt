-- What a follower is sent.
use Rattle.std.specs.Prelude.{◌≡◌, ℕ, ◌+◌, ◌-◌, ◌≤◌, List, ◌++◌, length, take, drop, Option, Some, Result, IfOk, MatchResult}
use Rattle.std.specs.Io.KnownBytes.{Appends}

-- the writer was handed a beginning of these bytes
abbrev pub AppendsBeginning : Option (List ℕ) → Option (List ℕ) → List ℕ → Type 0
AppendsBeginning old new bytes = (k : ℕ) × Appends old new (take k bytes)

-- the writer was handed all of these bytes, or at a fault a beginning of them
abbrev pub Sends : {T E : Type 0} → Option (List ℕ) → Option (List ℕ) → Result T E → List ℕ → Type 0
Sends old new r bytes = MatchResult r (λ _. Appends old new bytes) (λ _. AppendsBeginning old new bytes)

-- the bytes of a file between two places
abbrev pub between : ℕ → ℕ → List ℕ → List ℕ
between from to file = take (to - from) (drop from file)

-- what was read there are bytes of the file
abbrev pub ReadsThere : {E : Type 0} → List ℕ → ℕ → Result ℕ E → List ℕ → Type 0
ReadsThere file at r piece = IfOk r (λ n. take n piece ≡ take n (drop at file))

-- the writer was handed so many bytes of the file from a place on, or at a fault a beginning of those between two places
abbrev pub SendsSome : {E : Type 0} → Option (List ℕ) → Option (List ℕ) → Result ℕ E → ℕ → ℕ → List ℕ → Type 0
SendsSome old new r at to file = MatchResult r (λ n. Appends old new (take n (drop at file))) (λ _. AppendsBeginning old new (between at to file))
