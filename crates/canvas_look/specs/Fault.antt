-- The codes of a board's refusals.
use Rattle.std.specs.Prelude.{ℕ}
use Rattle.canvas_record.specs.Refused.{refusal_code}
use Rattle.canvas_look.specs.declared.fault.BoardFault.{BoardFault}
use Rattle.canvas_look.specs.declared.fault.BoardFault.TheVariants.{OutOfMemory, Refused, VersionsSpent, Behind, Strangers, BadWorkers, BadSetting, NoView}

-- the code of a refusal
abbrev pub board_fault_code : BoardFault → ℕ
board_fault_code OutOfMemory = 1
board_fault_code (Refused why) = refusal_code why
board_fault_code VersionsSpent = 16
board_fault_code (Behind desk front) = 17
board_fault_code (Strangers own found) = 18
board_fault_code BadWorkers = 31
board_fault_code BadSetting = 32
board_fault_code NoView = 33
