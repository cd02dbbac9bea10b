-- What an outlet was given: what its writer has of it, and what it still holds.
use Rattle.std.specs.Prelude.{ℕ, List, Option}
use Rattle.std.specs.Io.KnownBytes.{append_known}
use Rattle.canvas_doors.specs.declared.outlet.Outlet.{Outlet}

-- the writer that it sends to
abbrev pub writer_of : {W : Type 0} → Outlet W → W
writer_of outlet = outlet.writer

-- the bytes that it holds
abbrev pub held_by : {W : Type 0} → Outlet W → List ℕ
held_by outlet = outlet.held.items

-- the bytes of its writer, where the writer tells them, and then those that it holds
abbrev pub given_to : {W : Type 0} → (W → Option (List ℕ)) → Outlet W → Option (List ℕ)
given_to contents outlet = append_known (contents outlet.writer) (held_by outlet)
