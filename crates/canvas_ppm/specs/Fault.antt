use Rattle.std.specs.Prelude.{ℕ}
use Rattle.canvas_ppm.specs.declared.fault.PpmFault.{PpmFault}
use Rattle.canvas_ppm.specs.declared.fault.PpmFault.TheVariants.{NotP6, BadHeader, Truncated, TooLong, OutOfMemory}

-- the number of a fault
abbrev pub fault_code : PpmFault → ℕ
fault_code NotP6 = 40
fault_code BadHeader = 41
fault_code Truncated = 42
fault_code TooLong = 43
fault_code OutOfMemory = 1
