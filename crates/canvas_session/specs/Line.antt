-- Lines in a stream of bytes.
use Rattle.std.specs.Prelude.{◌≡◌, ◌≢◌, ℕ, ◌<◌, ◌≤◌, nat_le, Bool, List, [], ◌∷◌, ◌++◌, ◌==◌, Option, IfSome, length, slice_index, take, take_while, if◌then◌else◌}

-- none of the first n bytes is an LF
abbrev pub LacksLf : ℕ → List ℕ → Type 0
LacksLf n xs = (k : ℕ) → k < n → slice_index xs k ≢ 10

abbrev pub HasNoLf : List ℕ → Type 0
HasNoLf xs = LacksLf (length xs) xs

-- a line, without the LF that ends it
pub record IsLine (line : List ℕ) : Type 0 where
  pub short : length line ≤ 65536
  pub whole : HasNoLf line

-- a line, with the LF that ends it
abbrev pub ended : List ℕ → List ℕ
ended line = line ++ 10 ∷ []

-- the pieces that an LF ends, where `front` came before; what follows the last LF is no piece
abbrev pub pieces : List ℕ → List ℕ → List (List ℕ)
pieces front [] = []
pieces front (b ∷ bs) = if b == 10 then front ∷ pieces [] bs else pieces (front ++ b ∷ []) bs

-- a piece that may be a line
abbrev pub is_short : List ℕ → Bool
is_short piece = nat_le (length piece) 65536

-- the lines of an input: the pieces before the first that is too long, and no more than a session answers
unfoldable pub lines_of : List ℕ → List (List ℕ)
lines_of input = take 1000000 (take_while is_short (pieces [] input))

-- of an input that is told, these are all lines
abbrev pub AreAllLines : Option (List ℕ) → List (List ℕ) → Type 0
AreAllLines input lines = IfSome input (λ bytes. lines ≡ lines_of bytes)

-- of an input that is told, these are the first lines
abbrev pub AreFirstLines : Option (List ℕ) → List (List ℕ) → Type 0
AreFirstLines input lines = IfSome input (λ bytes. lines ≡ take (length lines) (lines_of bytes))
