-- The numbers and names of the faults of a server.
use Rattle.std.specs.Prelude.{ℕ, List, Option, Some, None, codes}
use Rattle.canvas_code.specs.Names.{name_of}
use Rattle.canvas_server.specs.declared.server_fault.ServerFault.{ServerFault}
use Rattle.canvas_server.specs.declared.server_fault.ServerFault.TheVariants.{BadSetting, BadWorkers, NoSeats, OutOfMemory, AcceptFault}

-- the number of a fault
abbrev pub server_fault_code : ServerFault → Option ℕ
server_fault_code BadSetting = Some 32
server_fault_code BadWorkers = Some 31
server_fault_code NoSeats = Some 19
server_fault_code OutOfMemory = Some 1
server_fault_code AcceptFault = None

-- the name of the number, or that of the fault without one
abbrev pub name_at : Option ℕ → List ℕ
name_at (Some code) = name_of code
name_at None = codes "AcceptFault"

abbrev pub server_fault_name : ServerFault → List ℕ
server_fault_name fault = name_at (server_fault_code fault)
