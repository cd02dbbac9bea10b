-- The board of a seat at a shared document.
use Rattle.std.specs.Prelude.{◌≡◌, ℕ, ◌<◌, ◌≤◌, false, List, take, Result, Ok, Err}
use Rattle.canvas_record.specs.declared.edits.Change.{Change}
use Rattle.canvas_record.specs.Contents.{Contents}
use Rattle.canvas_line.specs.Lines.{Sight}
use Rattle.canvas_look.specs.declared.answers.Edited.{Edited}
use Rattle.canvas_line.specs.declared.fault.LineFault.{LineFault}
use Rattle.canvas_line.specs.declared.fault.LineFault.TheVariants as line
use Rattle.canvas_look.specs.declared.fault.BoardFault.{BoardFault}
use Rattle.canvas_look.specs.declared.fault.BoardFault.TheVariants.{BadSetting}
use Rattle.canvas_board.specs.Fault.{board_fault_of}
use Rattle.canvas_look.specs.Seen.{Seen}

-- the board of one caller among others
abbrev pub shared_board : Contents → ℕ → List Change → Seen
shared_board opening limit front = record { opening = opening; limit = limit; front = front; alone = false }

-- the board over a seat that has answered about so many changes
abbrev pub board_at : Sight → ℕ → Seen
board_at seat known = shared_board seat.opening seat.limit (take known seat.front)

-- what making one gives: the seat's document, limit and front, not alone; or the refusal, and the seat again
abbrev pub OpensAt : Sight → ℕ → Result Seen (BoardFault × Sight) → Type 0
OpensAt seat keep (Ok board) = (board ≡ shared_board seat.opening seat.limit seat.front) × (keep ≤ 256)
OpensAt seat keep (Err refused) = (refused.0 ≡ BadSetting) × (refused.1 ≡ seat) × (256 < keep)

-- how many changes the board has answered about after an edit: all that the seat has seen, where the answer tells of them
abbrev pub known_after : ℕ → ℕ → Result Edited LineFault → ℕ
known_after known seen (Ok edited) = seen
known_after known seen (Err line.VersionsSpent) = seen
known_after known seen (Err (line.Refused why)) = seen
known_after known seen (Err line.OutOfMemory) = known
known_after known seen (Err (line.Behind desk front)) = known
known_after known seen (Err (line.Strangers own found)) = known
known_after known seen (Err line.NoSeats) = known
known_after known seen (Err line.BadSetting) = known
known_after known seen (Err line.NoView) = known

-- what a board answers where its seat answers so
abbrev pub told_as : Result Edited LineFault → Result Edited BoardFault
told_as (Ok edited) = Ok edited
told_as (Err fault) = Err (board_fault_of fault)
