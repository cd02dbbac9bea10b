-- The text of the last export.
use Rattle.std.specs.Prelude.{Bool, true, Option, Some, None, if◌then◌else◌}
use Rattle.canvas_line.specs.Lines.{Sight}
use Rattle.canvas_line.specs.Seats.{is_no_further}

-- What is kept gives way to a new version: nothing does, and a version of the same line that is no newer.
abbrev pub gives_way : Option Sight → Sight → Bool
gives_way None new = true
gives_way (Some old) new = is_no_further old new

-- the version that is kept from then on
abbrev pub newer_of : Option Sight → Sight → Option Sight
newer_of kept new = if gives_way kept new then Some new else kept
