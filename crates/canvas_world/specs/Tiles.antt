-- What the tiles of a transcript show, and which versions its entries name.
use Rattle.std.specs.Prelude.{ℕ, ◌≡◌, ◌≤◌, ◌+◌, ◌==◌, List, [], ◌∷◌, length, take, All, if◌then◌else◌}
use Rattle.canvas_record.specs.declared.edits.Change.{Change}
use Rattle.canvas_record.specs.Contents.{Contents}
use Rattle.canvas_record.specs.History.{AllFit, replay_of}
use Rattle.canvas_record.specs.Picture.{colour}
use Rattle.canvas_paint.specs.Pictures.{picture_of}
use Rattle.canvas_world.specs.declared.event.Event.{Event}
use Rattle.canvas_world.specs.declared.event.Event.TheVariants.{Look}
use Rattle.canvas_world.specs.declared.entry.Entry.{Entry}
use Rattle.canvas_world.specs.declared.entry.Entry.TheVariants.{Edited, Refused, Looked, Painted, Tile, Skipped}
use Rattle.canvas_world.specs.Past.{Past, Step, changes_in, edits_in}
use Rattle.canvas_world.specs.Transcript.{seat_of}

-- the steps of events with their entries, newest first, above earlier ones
abbrev pub steps_after : Past → List Event → List Entry → Past
steps_after past [] entries = past
steps_after past (e ∷ events) [] = past
steps_after past (e ∷ events) (came ∷ entries) = steps_after (record { event = e; entry = came } ∷ past) events entries

abbrev pub steps_of : List Event → List Entry → Past
steps_of events entries = steps_after [] events entries

-- the changes that the accepted edits come to, in their order
abbrev pub history_of : Contents → List Event → List Entry → List Change
history_of start events entries = changes_in start (steps_of events entries)

-- a tile is the picture of its window of the document after the first so many changes; another entry shows nothing
abbrev pub ShowsAVersion : Contents → List Change → Entry → Type 0
ShowsAVersion start history (Tile version window raster) = (version ≤ length history) × (raster ≡ picture_of (colour (replay_of start (take version history)).records) window)
ShowsAVersion start history (Edited version id) = Unit {0}
ShowsAVersion start history (Refused code) = Unit {0}
ShowsAVersion start history (Looked version) = Unit {0}
ShowsAVersion start history Painted = Unit {0}
ShowsAVersion start history Skipped = Unit {0}

-- the version that an entry names; 0 where it names none
abbrev pub version_in : Entry → ℕ
version_in (Edited version id) = version
version_in (Refused code) = 0
version_in (Looked version) = version
version_in Painted = 0
version_in (Tile version window raster) = version
version_in Skipped = 0

abbrev pub look_or : ℕ → Event → Entry → Past → Past → Past
look_or seat (Look by window) (Looked version) past earlier = if by == seat then past else earlier
look_or seat event entry past earlier = earlier

-- the steps before the latest look of a seat
abbrev pub before_look : ℕ → Past → Past
before_look seat [] = []
before_look seat (s ∷ past) = look_or seat s.event s.entry past (before_look seat past)

-- after some steps, an accepted edit names the next number, and a look how many edits were accepted; a tile names no more than were accepted, and no less than any entry before its seat's latest look
abbrev pub IsNumbered : Past → Event → Entry → Type 0
IsNumbered past event (Edited version id) = version ≡ edits_in past + 1
IsNumbered past event (Refused code) = Unit {0}
IsNumbered past event (Looked version) = version ≡ edits_in past
IsNumbered past event Painted = Unit {0}
IsNumbered past event (Tile version window raster) = (version ≤ edits_in past) × All (λ (s : Step). version_in s.entry ≤ version) (before_look (seat_of event) past)
IsNumbered past event Skipped = Unit {0}

-- each entry is numbered after the steps before it
abbrev pub AreNumbered : Past → Type 0
AreNumbered [] = Unit {0}
AreNumbered (s ∷ past) = IsNumbered past s.event s.entry × AreNumbered past

-- one entry for each event; the accepted edits come to one change each, which fits where it stands; each tile shows the document after as many of these changes as it names; and the entries are numbered in turn
pub record ShowOneHistory (start : Contents) (events : List Event) (entries : List Entry) : Type 0 where
  pub each : length entries ≡ length events
  pub many : length (history_of start events entries) ≡ edits_in (steps_of events entries)
  pub fits : AllFit start (history_of start events entries)
  pub tiles : All (ShowsAVersion start (history_of start events entries)) entries
  pub numbered : AreNumbered (steps_of events entries)
