-- What a board over a seat answers where its seat is refused.
use Rattle.canvas_line.specs.declared.fault.LineFault.{LineFault}
use Rattle.canvas_line.specs.declared.fault.LineFault.TheVariants as line
use Rattle.canvas_look.specs.declared.fault.BoardFault.{BoardFault}
use Rattle.canvas_look.specs.declared.fault.BoardFault.TheVariants.{OutOfMemory, Refused, VersionsSpent, Behind, Strangers, BadSetting, NoView}

-- A seat that could not be had is a document that could not be entered.
abbrev pub board_fault_of : LineFault → BoardFault
board_fault_of line.OutOfMemory = OutOfMemory
board_fault_of (line.Refused why) = Refused why
board_fault_of line.VersionsSpent = VersionsSpent
board_fault_of (line.Behind desk front) = Behind desk front
board_fault_of (line.Strangers own found) = Strangers own found
board_fault_of line.NoSeats = NoView
board_fault_of line.BadSetting = BadSetting
board_fault_of line.NoView = NoView
