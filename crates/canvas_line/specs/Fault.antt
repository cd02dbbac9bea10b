-- The codes of a line's refusals.
use Rattle.std.specs.Prelude.{ℕ}
use Rattle.canvas_record.specs.Refused.{refusal_code}
use Rattle.canvas_line.specs.declared.fault.LineFault.{LineFault}
use Rattle.canvas_line.specs.declared.fault.LineFault.TheVariants.{OutOfMemory, Refused, VersionsSpent, Behind, Strangers, NoSeats, BadSetting, NoView}

-- the code of a refusal
abbrev pub line_fault_code : LineFault → ℕ
line_fault_code OutOfMemory = 1
line_fault_code (Refused why) = refusal_code why
line_fault_code VersionsSpent = 16
line_fault_code (Behind desk front) = 17
line_fault_code (Strangers own found) = 18
line_fault_code NoSeats = 19
line_fault_code BadSetting = 32
line_fault_code NoView = 33
