-- What stands before an event: the events so far with their entries, and what is found by looking back over them.
use Rattle.std.specs.Prelude.{ℕ, ◌+◌, ◌==◌, List, [], ◌∷◌, ◌++◌, Option, Some, None, if◌then◌else◌, Result, Ok, Err}
use Rattle.canvas_plane.specs.declared.windows.Window.{Window}
use Rattle.canvas_record.specs.declared.edits.Change.{Change}
use Rattle.canvas_record.specs.declared.refusals.Refusal.{Refusal}
use Rattle.canvas_record.specs.Contents.{Contents}
use Rattle.canvas_record.specs.Decision.{decision_of}
use Rattle.canvas_record.specs.History.{replay_of}
use Rattle.canvas_world.specs.declared.event.Event.{Event}
use Rattle.canvas_world.specs.declared.event.Event.TheVariants.{Edit, Look, Strip, Answer}
use Rattle.canvas_world.specs.declared.entry.Entry.{Entry}
use Rattle.canvas_world.specs.declared.entry.Entry.TheVariants.{Edited, Looked, Painted, Tile}
use Rattle.canvas_world.specs.declared.cut.Cut.{Cut}

-- an event, and what it came to
pub record Step : Type 0 where
  pub event : Event
  pub entry : Entry

-- the steps before an event, newest first
abbrev pub Past : Type 0
Past = List Step

abbrev pub edits_after : Entry → ℕ → ℕ
edits_after (Edited version id) earlier = earlier + 1
edits_after entry earlier = earlier

-- how many edits were accepted
abbrev pub edits_in : Past → ℕ
edits_in [] = 0
edits_in (s ∷ past) = edits_after s.entry (edits_in past)

-- the changes with the one that was decided, if there is one
abbrev pub with_decided : List Change → Result Change Refusal → List Change
with_decided changes (Ok change) = changes ++ change ∷ []
with_decided changes (Err why) = changes

-- the changes after a step: those before it and, of an accepted edit, what is decided at the document after them
abbrev pub changes_after : Contents → Event → Entry → List Change → List Change
changes_after start (Edit seat edit) (Edited version id) changes = with_decided changes (decision_of edit (replay_of start changes))
changes_after start event entry changes = changes

-- the accepted changes, in their order
abbrev pub changes_in : Contents → Past → List Change
changes_in start [] = []
changes_in start (s ∷ past) = changes_after start s.event s.entry (changes_in start past)

-- what a look fixes
pub record View : Type 0 where
  pub version : ℕ
  pub window : Window

abbrev pub view_after : ℕ → Event → Entry → Option View → Option View
view_after seat (Look by window) (Looked version) earlier = if by == seat then Some (record { version = version; window = window }) else earlier
view_after seat (Answer by) (Tile version window raster) earlier = if by == seat then None else earlier
view_after seat event entry earlier = earlier

-- the latest look of a seat, if no tile of that seat stands after it
abbrev pub view_in : ℕ → Past → Option View
view_in seat [] = None
view_in seat (s ∷ past) = view_after seat s.event s.entry (view_in seat past)

abbrev pub cuts_after : ℕ → Event → Entry → List Cut → List Cut
cuts_after seat (Look by window) (Looked version) earlier = if by == seat then [] else earlier
cuts_after seat (Strip by k n) Painted earlier = if by == seat then earlier ++ record { k = k; n = n } ∷ [] else earlier
cuts_after seat event entry earlier = earlier

-- the strips that a seat painted since its latest look
abbrev pub cuts_in : ℕ → Past → List Cut
cuts_in seat [] = []
cuts_in seat (s ∷ past) = cuts_after seat s.event s.entry (cuts_in seat past)
