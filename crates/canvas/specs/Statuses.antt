-- The faults of the program, and the statuses with which it ends at them.
use Rattle.std.specs.Prelude.{ℕ, Option, Some, None}
use Rattle.canvas.specs.declared.Fault.{Fault}
use Rattle.canvas.specs.declared.Fault.TheVariants.{Usage, Refused, Io}
use Rattle.canvas_server.specs.Statuses.{status_of}

-- the fault of the program with this code, or with none
abbrev pub fault_of_code : Option ℕ → Fault
fault_of_code None = Io
fault_of_code (Some code) = Refused code

-- the status at a fault of the program: 2 where the words are no command
abbrev pub status_at : Fault → ℕ
status_at Usage = 2
status_at (Refused code) = status_of (Some code)
status_at Io = status_of None
