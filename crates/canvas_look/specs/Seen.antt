-- What a board is seen as.
use Rattle.std.specs.Prelude.{◌≡◌, ℕ, ◌≤◌, Bool, true, List, [], ◌∷◌, ◌++◌, length}
use Rattle.canvas_record.specs.declared.edits.Change.{Change}
use Rattle.canvas_record.specs.Contents.{Contents}
use Rattle.canvas_record.specs.History.{replay_of, AllFit}

-- the document that it was opened with, how many changes it may accept, the accepted changes that it has seen, and whether nobody else edits the document
pub record Seen : Type 0 where
  pub opening : Contents
  pub limit : ℕ
  pub front : List Change
  pub alone : Bool

-- each change of the front fits where it stands, and all are within the limit
pub record IsSound (s : Seen) : Type 0 where
  pub fits : AllFit s.opening s.front
  pub within : length s.front ≤ s.limit

-- the document after the front
abbrev pub document_of : Seen → Contents
document_of s = replay_of s.opening s.front

-- the board with one more change
abbrev pub with_change : Seen → Change → Seen
with_change s change = record { opening = s.opening; limit = s.limit; front = s.front ++ change ∷ []; alone = s.alone }

-- The same board with a front that begins with the old one, and is sound. Of a board that is alone the front is the old one.
pub record Grows (s t : Seen) : Type 0 where
  pub more : List Change
  pub same : t ≡ record { opening = s.opening; limit = s.limit; front = s.front ++ more; alone = s.alone }
  pub sound : IsSound t
  pub alone : s.alone ≡ true → more ≡ []
