-- What a leader's reply to an edit tells.
use Rattle.std.specs.Prelude.{◌≡◌, ℕ, List, Option, Some, None}
use Rattle.canvas_wire.specs.Replies.{line_of, created, edited, refused}
use Rattle.canvas_follow.specs.declared.handed.Outcome.{Outcome}
use Rattle.canvas_follow.specs.declared.handed.Outcome.TheVariants.{Made, Refused}

-- the line, with its LF, is the reply that says so
abbrev pub Says : List ℕ → Outcome → Type 0
Says line (Made (Some id) version) = line ≡ line_of (created id version)
Says line (Made None version) = line ≡ line_of (edited version)
Says line (Refused code) = line ≡ line_of (refused code)
