-- The settings of a server, and how it may end.
use Rattle.std.specs.Prelude.{◌≡◌, ◌<◌, ◌&&◌, nat_le, Bool, Result, Ok, Err, if◌then◌else◌}
use Rattle.canvas_board.specs.Alone.{is_limit}
use Rattle.canvas_line.specs.declared.fault.LineFault.{LineFault}
use Rattle.canvas_line.specs.declared.fault.LineFault.TheVariants as line
use Rattle.canvas_paint.specs.Workers.{are_workers}
use Rattle.canvas_server.specs.declared.serving.Settings.{Settings}
use Rattle.canvas_server.specs.declared.server_fault.ServerFault.{ServerFault}
use Rattle.canvas_server.specs.declared.server_fault.ServerFault.TheVariants.{BadSetting, BadWorkers, NoSeats, OutOfMemory, AcceptFault}

-- the seats, the limit of changes and the pictures that are kept lie within their ranges
abbrev pub is_setting : Settings → Bool
is_setting s = nat_le 1 s.seats && nat_le s.seats 64 && is_limit s.limit && nat_le s.keep 256

-- what settings are refused as
abbrev pub settings_fault : Settings → Result (Unit {0}) ServerFault
settings_fault s = if is_setting s then (if are_workers s.workers then Ok tt else Err BadWorkers) else Err BadSetting

-- A server ends well only after a number of connections; a bad setting comes before a bad number of workers, and both before every other fault.
abbrev pub Ends : Settings → Result (Unit {0}) ServerFault → Type 0
Ends s (Ok end) = (settings_fault s ≡ Ok tt) × (0 < s.connections)
Ends s (Err BadSetting) = settings_fault s ≡ Err BadSetting
Ends s (Err BadWorkers) = settings_fault s ≡ Err BadWorkers
Ends s (Err NoSeats) = settings_fault s ≡ Ok tt
Ends s (Err OutOfMemory) = settings_fault s ≡ Ok tt
Ends s (Err AcceptFault) = settings_fault s ≡ Ok tt

-- the fault of a server whose line could not be opened
abbrev pub opening_fault : LineFault → ServerFault
opening_fault line.BadSetting = BadSetting
opening_fault line.NoSeats = NoSeats
opening_fault _ = OutOfMemory
