-- The codes of what ends a session.
use Rattle.std.specs.Prelude.{ℕ}
use Rattle.canvas_session.specs.declared.fault.Cause.{Cause}
use Rattle.canvas_session.specs.declared.fault.Cause.TheVariants.{OutOfMemory, LineTooLong, ReadFault, WriteFault, TooManyRequests, CutLine}

abbrev pub cause_code : Cause → ℕ
cause_code OutOfMemory = 1
cause_code LineTooLong = 70
cause_code ReadFault = 71
cause_code WriteFault = 72
cause_code TooManyRequests = 73
cause_code CutLine = 74
