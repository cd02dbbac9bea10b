-- How a line is served at its doors, and how that may end.
use Rattle.std.specs.Prelude.{◌≡◌, ℕ, ◌/◌, ◌==◌, ◌&&◌, min, nat_le, Bool, Result, Ok, Err, if◌then◌else◌}
use Rattle.canvas_paint.specs.Workers.{are_workers}
use Rattle.canvas_doors.specs.declared.seats.Shares.{Shares}
use Rattle.canvas_server.specs.declared.at_doors.DoorSettings.{DoorSettings}
use Rattle.canvas_server.specs.declared.at_doors.Ended.{Ended}
use Rattle.canvas_server.specs.declared.server_fault.ServerFault.{ServerFault}
use Rattle.canvas_server.specs.declared.server_fault.ServerFault.TheVariants.{BadSetting, BadWorkers, NoSeats, OutOfMemory, AcceptFault}

-- there is a door, the seats and the pictures that are kept lie within their ranges, and an address may have a seat
abbrev pub is_door_setting : ℕ → ℕ → DoorSettings → Bool
is_door_setting doors seats s = nat_le 1 doors && nat_le 1 seats && nat_le seats 64 && nat_le s.keep 256 && nat_le 1 s.share

-- how many seats are left to gateways: sixteen or half, where a door is for them
abbrev pub own_of : ℕ → ℕ → ℕ
own_of seats gateways = if gateways == 0 then 0 else min (seats / 2) 16

-- how so many seats are shared
abbrev pub shares_of : ℕ → DoorSettings → Shares
shares_of seats s = record { count = seats; own = own_of seats s.gateways; each = s.share }

-- what settings are refused as at so many doors and seats
abbrev pub door_fault : ℕ → ℕ → DoorSettings → Result (Unit {0}) ServerFault
door_fault doors seats s = if is_door_setting doors seats s then (if are_workers s.workers then Ok tt else Err BadWorkers) else Err BadSetting

-- A bad setting comes before a bad number of workers, and both before all else. There is no want of a seat, since the seats are given.
abbrev pub EndsAtDoors : ℕ → ℕ → DoorSettings → Result Ended ServerFault → Type 0
EndsAtDoors doors seats s (Ok ended) = door_fault doors seats s ≡ Ok tt
EndsAtDoors doors seats s (Err BadSetting) = door_fault doors seats s ≡ Err BadSetting
EndsAtDoors doors seats s (Err BadWorkers) = door_fault doors seats s ≡ Err BadWorkers
EndsAtDoors doors seats s (Err NoSeats) = ⊥
EndsAtDoors doors seats s (Err OutOfMemory) = door_fault doors seats s ≡ Ok tt
EndsAtDoors doors seats s (Err AcceptFault) = door_fault doors seats s ≡ Ok tt
