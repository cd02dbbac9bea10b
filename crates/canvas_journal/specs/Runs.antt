-- What a journal keeps over a run of turns, whatever moment a crash comes.
use Rattle.std.specs.Prelude.{◌≤◌, ℕ, List, ◌++◌}
use mathlib.Core.List.{IsPrefix}
use Rattle.canvas_journal.specs.Lines.{recovered}
use Rattle.canvas_journal.specs.Journal.{done_of}
use Rattle.canvas_journal.specs.declared.journal.Journal.{Journal}

-- all lines that were handed over: those that count, and then the staged ones
abbrev pub handed_of : {D : Type 0} → (D → List ℕ) → Journal D → List (List ℕ)
handed_of seen journal = done_of seen journal ++ journal.staged

-- each crash since that moment leaves a file whose lines begin with the known ones, and are a beginning of those handed over
abbrev pub Lasts : {D : Type 0} → (D → ℕ → List ℕ → Type 0) → D → ℕ → List (List ℕ) → List (List ℕ) → Type 0
Lasts left_since device since known handed = (c : List ℕ) → left_since device since c → IsPrefix known (recovered c) × IsPrefix (recovered c) handed

-- since that moment these lines are acknowledged, and nothing was left that was not handed over
pub record HasKept {D : Type 0} (seen : D → List ℕ) (moment : D → ℕ) (left_since : D → ℕ → List ℕ → Type 0) (journal : Journal D) (since : ℕ) (known : List (List ℕ)) : Type 0 where
  pub begun : since ≤ moment journal.device
  pub counts : IsPrefix known (done_of seen journal)
  pub lasts : Lasts left_since journal.device since known (handed_of seen journal)
