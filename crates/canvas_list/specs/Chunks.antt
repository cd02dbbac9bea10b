-- A list in chunks.
use Rattle.std.specs.Prelude.{ℕ, ◌≡◌, ◌<◌, ◌≤◌, ◌+◌, ◌^◌, List, [], ◌∷◌, ◌++◌, length, take, sum_by, slice_index_or, Bool, true, false}
use Rattle.std.specs.List.{All}
use Rattle.canvas_list.specs.declared.sizes.TheConstants.{MOST_IN_CHUNK}

-- a number of items that a chunk may have
pub record FitsChunk (items : ℕ) : Type 0 where
  pub some : 0 < items
  pub few : items ≤ MOST_IN_CHUNK

-- the items of all chunks, in order
abbrev pub joined : {X : Type 0} → List (List X) → List X
joined [] = []
joined (chunk ∷ chunks) = chunk ++ joined chunks

-- chunks that have an item each, and how many items they have
pub record IsTable {X : Type 0} (chunks : List (List X)) (len : ℕ) : Type 0 where
  pub some : All (λ chunk. 0 < length chunk) chunks
  pub has_len : len ≡ length (joined chunks)
  pub is_small : len < 2 ^ 32

-- of parts of some sizes, the one that has a position, or the last one: its place, and where it starts
pub record IsSpot {P : Type 0} (size : P → ℕ) (parts : List P) (at part start : ℕ) : Type 0 where
  pub within : part < length parts
  pub is : start ≡ sum_by size (take part parts)
  pub from : start ≤ at
  pub upto : part + 1 < length parts → at < sum_by size (take (part + 1) parts)

-- of parts of some sizes, some side by side that have a position: from the first up to the end, and where they start
pub record IsPartAbout {P : Type 0} (size : P → ℕ) (parts : List P) (at first end start : ℕ) : Type 0 where
  pub order : first ≤ end
  pub within : end ≤ length parts
  pub is : start ≡ sum_by size (take first parts)
  pub from : start ≤ at
  pub before : at < sum_by size parts → at < sum_by size (take end parts)
  pub behind : at ≤ sum_by size parts → at ≤ sum_by size (take end parts)

-- whether the first item passes a test
abbrev pub first_passes : {X : Type 0} → (X → Bool) → List X → Bool
first_passes p [] = false
first_passes p (item ∷ items) = p item

-- items that stand side by side in a list, the first of them at a position
pub record IsRun {X : Type 0} (xs items : List X) (start : ℕ) : Type 0 where
  pub within : start + length items ≤ length xs
  pub same : (i : ℕ) (x : X) → i < length items → slice_index_or items i x ≡ slice_index_or xs (start + i) x

-- items of a list, others right behind them, and others from a place on
pub record IsStretch {X : Type 0} (xs items behind others : List X) (start next : ℕ) : Type 0 where
  pub run : IsRun xs items start
  pub rest : IsRun xs behind (start + length items)
  pub more : IsRun xs others next

-- something holds of each item of a list from a position on, up to another
abbrev pub AllBetween : {X : Type 0} → (X → Type 0) → List X → ℕ → ℕ → Type 0
AllBetween {X} P xs from end = (i : ℕ) (x : X) → from ≤ i → i < end → P (slice_index_or xs i x)

-- a place where the items that pass a test may end: the one before it passes, and the one there fails
pub record IsEnd {X : Type 0} (p : X → Bool) (xs : List X) (at : ℕ) : Type 0 where
  pub before : (i : ℕ) (x : X) → i + 1 ≡ at → p (slice_index_or xs i x) ≡ true
  pub there : (x : X) → at < length xs → p (slice_index_or xs at x) ≡ false
