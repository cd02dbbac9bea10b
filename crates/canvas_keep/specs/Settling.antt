-- What a thread is told that waits for versions to be kept.
use Rattle.std.specs.Prelude.{ℕ, ◌≡◌, ◌<◌, ◌≤◌, ◌||◌, Bool, true, false, Option, Some, None, is_some, Result, Ok, Err}
use Rattle.canvas_keep.specs.declared.fault.KeepFault.{KeepFault}

-- the fault, once there is one; else how many versions are kept, where these are all that it waits for
abbrev pub Answers : Option KeepFault → ℕ → ℕ → Option (Result ℕ KeepFault) → Type 0
Answers fault kept target None = (fault ≡ None) × (kept < target)
Answers fault kept target (Some (Ok n)) = (fault ≡ None) × (n ≡ kept) × (target ≤ n)
Answers fault kept target (Some (Err f)) = fault ≡ Some f

-- how many versions are kept, where these are more than it has; that no more are told, where the journal is lost or the waits were ended
abbrev pub AnswersMore : Option KeepFault → Bool → ℕ → ℕ → Option (Option ℕ) → Type 0
AnswersMore fault ended kept has None = (kept ≤ has) × ((is_some fault || ended) ≡ false)
AnswersMore fault ended kept has (Some None) = (kept ≤ has) × ((is_some fault || ended) ≡ true)
AnswersMore fault ended kept has (Some (Some n)) = (n ≡ kept) × (has < n)
