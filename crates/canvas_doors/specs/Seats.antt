-- Who may take a seat.
use Rattle.std.specs.Prelude.{ℕ, ◌-◌, List, Bool, true, false, ◌&&◌, Option, None, Some, nat_eq, nat_lt}
use Rattle.std.specs.List.{count_by}
use Rattle.canvas_doors.specs.declared.seats.Guest.{Guest}
use Rattle.canvas_doors.specs.declared.seats.Guest.TheVariants.{Own, Near, Far}
use Rattle.canvas_doors.specs.declared.seats.Shares.{Shares}

-- a seat that one has who came by no door with seats of its own
abbrev pub is_shared : Option Guest → Bool
is_shared None = false
is_shared (Some Own) = false
is_shared (Some Near) = true
is_shared (Some (Far address)) = true

-- a seat that one has of an address
abbrev pub is_from : ℕ → Option Guest → Bool
is_from address None = false
is_from address (Some Own) = false
is_from address (Some Near) = false
is_from address (Some (Far other)) = nat_eq other address

-- not all seats are taken that are no door's own
abbrev pub has_room : Shares → List (Option Guest) → Bool
has_room shares seats = nat_lt (count_by is_shared seats) (shares.count - shares.own)

-- an address has fewer seats than one may have
abbrev pub has_share : ℕ → Shares → List (Option Guest) → Bool
has_share address shares seats = nat_lt (count_by (is_from address) seats) shares.each

-- one more may take a seat, where one is free
abbrev pub may_take : Guest → Shares → List (Option Guest) → Bool
may_take Own shares seats = true
may_take Near shares seats = has_room shares seats
may_take (Far address) shares seats = has_room shares seats && has_share address shares seats
