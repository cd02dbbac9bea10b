-- The changes that were accepted.
use Rattle.std.specs.Prelude.{List, [], Option, Some, None}
use Rattle.std.specs.declared.snapshot.Snapshot.{Snapshot}
use Rattle.canvas_record.specs.declared.edits.Change.{Change}
use Rattle.canvas_board.specs.declared.history.Past.{Past}

abbrev pub changes_of : Option (Snapshot Past) → List Change
changes_of None = []
changes_of (Some past) = past.value
