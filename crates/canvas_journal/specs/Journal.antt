-- What a journal's file stands for.
use Rattle.std.specs.Prelude.{◌≡◌, ◌⊎◌, ℕ, List, [], ◌∷◌, ◌++◌, length, drop}
use Rattle.canvas_journal.specs.Device.{Only, LeavesOnly}
use Rattle.canvas_journal.specs.Lines.{text, recovered}
use Rattle.canvas_journal.specs.declared.journal.Journal.{Journal}

-- the lines that count, a closed gate in the place of the staged lines' first blank, the rest of these, and a closed gate
abbrev pub at_rest : List (List ℕ) → List (List ℕ) → List ℕ
at_rest done staged = text done ++ 10 ∷ drop 1 (text staged ++ 10 ∷ [])

-- the lines that a crash now would leave
abbrev pub done_of : {D : Type 0} → (D → List ℕ) → Journal D → List (List ℕ)
done_of seen journal = recovered (seen journal.device)

-- the file is the lines that count and the staged ones, all of it on the disk
pub record IsSettled {D : Type 0} (seen : D → List ℕ) (may_leave : D → List ℕ → Type 0) (journal : Journal D) : Type 0 where
  pub file : seen journal.device ≡ at_rest (recovered (seen journal.device)) journal.staged
  pub end : journal.end ≡ length (text (recovered (seen journal.device)))
  pub durable : Only (seen journal.device) (may_leave journal.device)

-- the file stands for these lines, with the staged ones or without
abbrev pub IsWithOrWithout : List (List ℕ) → List (List ℕ) → List ℕ → Type 0
IsWithOrWithout done staged file = (recovered file ≡ done) ⊎ (recovered file ≡ done ++ staged)

-- what a crash might have left before, or a file of these lines
abbrev pub IsKeptOr : (List ℕ → Type 0) → List (List ℕ) → List ℕ → Type 0
IsKeptOr before lines file = before file ⊎ (recovered file ≡ lines)

-- The file has the same lines, all of it on the disk. A crash since then left what it might have left before, or these lines.
pub record Renews {D : Type 0} (seen : D → List ℕ) (may_leave : D → List ℕ → Type 0) (moment : D → ℕ) (left_since : D → ℕ → List ℕ → Type 0) (old new : D) : Type 0 where
  pub lines : recovered (seen new) ≡ recovered (seen old)
  pub durable : Only (seen new) (may_leave new)
  pub meanwhile : LeavesOnly moment left_since old new (IsKeptOr (may_leave old) (recovered (seen old)))
