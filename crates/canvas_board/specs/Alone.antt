-- Making the board of one caller.
use Rattle.std.specs.Prelude.{◌≡◌, ℕ, ◌&&◌, nat_le, Bool, true, false, List, [], Result, Ok, Err}
use Rattle.canvas_record.specs.declared.edits.Change.{Change}
use Rattle.canvas_record.specs.declared.edits.Edit.{Edit}
use Rattle.canvas_record.specs.Contents.{Contents}
use Rattle.canvas_record.specs.Decision.{decision_of}
use Rattle.canvas_record.specs.Effect.{Fits}
use Rattle.canvas_look.specs.declared.fault.BoardFault.{BoardFault}
use Rattle.canvas_look.specs.declared.fault.BoardFault.TheVariants.{OutOfMemory, Refused, VersionsSpent, Behind, Strangers, BadWorkers, BadSetting, NoView}
use Rattle.canvas_look.specs.Seen.{Seen}

-- a limit of accepted changes
abbrev pub is_limit : ℕ → Bool
is_limit limit = nat_le 1 limit && nat_le limit 1000000

-- the board of one caller
abbrev pub alone_board : Contents → ℕ → List Change → Seen
alone_board opening limit front = record { opening = opening; limit = limit; front = front; alone = true }

-- what making one gives: the document and limit given, nothing accepted, alone; or what the limit is refused as
abbrev pub Opens : Contents → ℕ → Result Seen BoardFault → Type 0
Opens document limit (Ok board) = (board ≡ alone_board document limit []) × (is_limit limit ≡ true)
Opens document limit (Err BadSetting) = is_limit limit ≡ false
Opens document limit (Err OutOfMemory) = ⊥
Opens document limit (Err VersionsSpent) = ⊥
Opens document limit (Err (Refused why)) = ⊥
Opens document limit (Err (Behind desk front)) = ⊥
Opens document limit (Err (Strangers own found)) = ⊥
Opens document limit (Err BadWorkers) = ⊥
Opens document limit (Err NoView) = ⊥

-- what an edit of a document is: the change that is decided, which fits, or the refusal
abbrev pub Makes : Contents → Edit → Result Change BoardFault → Type 0
Makes document edit (Ok change) = (decision_of edit document ≡ Ok change) × Fits change document
Makes document edit (Err (Refused why)) = decision_of edit document ≡ Err why
Makes document edit (Err OutOfMemory) = (change : Change) × (decision_of edit document ≡ Ok change)
Makes document edit (Err VersionsSpent) = ⊥
Makes document edit (Err (Behind desk front)) = ⊥
Makes document edit (Err (Strangers own found)) = ⊥
Makes document edit (Err BadWorkers) = ⊥
Makes document edit (Err BadSetting) = ⊥
Makes document edit (Err NoView) = ⊥
