-- How the running document stands to the steps so far.
use Rattle.std.specs.Prelude.{ℕ, ◌≡◌, ◌≤◌, ◌∷◌, List, length, take, Option, Some, None}
use Rattle.std.specs.Ordering.{nat_cmp}
use Rattle.std.specs.BTreeMap.{get}
use Rattle.canvas_record.specs.declared.edits.Change.{Change}
use Rattle.canvas_record.specs.Contents.{Contents}
use Rattle.canvas_record.specs.History.{AllFit, replay_of}
use Rattle.canvas_world.specs.declared.cut.Cut.{Cut}
use Rattle.canvas_record.specs.declared.edits.Edit.{Edit}
use Rattle.canvas_world.specs.declared.event.Event.{Event}
use Rattle.canvas_world.specs.declared.event.Event.TheVariants as event
use Rattle.canvas_world.specs.declared.entry.Entry.{Entry}
use Rattle.canvas_world.specs.declared.world.World.{World}
use Rattle.canvas_world.specs.Pieces.{Work}
use Rattle.canvas_world.specs.Past.{Past, View, changes_in, cuts_in, edits_in, view_in}
use Rattle.canvas_world.specs.Transcript.{entry_of, seated_entry}

-- the work that a look asked for, with the strips painted since
abbrev pub work_at : Contents → List Change → List Cut → Option View → Option Work
work_at start changes cuts None = None
work_at start changes cuts (Some view) = Some (record { version = view.version; window = view.window; document = replay_of start (take view.version changes); cuts = cuts })

-- the work of a seat
abbrev pub work_in : Contents → Past → ℕ → Option Work
work_in start past seat = work_at start (changes_in start past) (cuts_in seat past) (view_in seat past)

-- the version of a look is there
abbrev pub IsThere : ℕ → Option View → Type 0
IsThere many None = Unit {0}
IsThere many (Some view) = view.version ≤ many

-- the world after the steps
pub record IsWorld (start : Contents) (past : Past) (w : World) : Type 0 where
  pub fits : AllFit start (changes_in start past)
  pub document : w.document.value ≡ replay_of start (changes_in start past)
  pub version : w.version ≡ edits_in past
  pub many : w.version ≡ length (changes_in start past)
  pub jobs : (seat : ℕ) → get nat_cmp w.jobs seat ≡ work_in start past seat
  pub there : (seat : ℕ) → IsThere w.version (view_in seat past)

-- the event came to its entry, whatever steps were before it
abbrev pub Enters : Event → World → Entry → World → Type 0
Enters event old entry new = (start : Contents) (past : Past) → IsWorld start past old → (entry ≡ seated_entry start past event) × IsWorld start (record { event = event; entry = entry } ∷ past) new

-- the same of an edit, by whatever seat
abbrev pub EntersEdit : Edit → World → Entry → World → Type 0
EntersEdit edit old entry new = (seat : ℕ) → Enters (event.Edit seat edit) old entry new

-- the same of an event of a seat that may not be there
abbrev pub EntersAny : ℕ → Event → World → Entry → World → Type 0
EntersAny seats event old entry new = (start : Contents) (past : Past) → IsWorld start past old → (entry ≡ entry_of start seats past event) × IsWorld start (record { event = event; entry = entry } ∷ past) new
