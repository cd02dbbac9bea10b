-- A call as a record notes it.
use Rattle.std.specs.Prelude.{ℕ, Bool, List, slice_index, ◌==◌}

-- what was asked, its place or length, whether it was done, and the bytes
abbrev pub Event : Type 0
Event = ℕ × ℕ × Bool × List ℕ

abbrev pub event_of : List ℕ → List ℕ → Event
event_of numbers bytes = (slice_index numbers 0, slice_index numbers 1, slice_index numbers 2 == 1, bytes)
