-- The transcript of a list of events: the entry of each event looks back over all steps before it.
use Rattle.std.specs.Prelude.{ℕ, zero, suc, ◌+◌, ◌==◌, ◌&&◌, not, nat_le, nat_lt, List, [], ◌∷◌, take, Option, Some, None, Bool, true, false, if◌then◌else◌, Result, Ok, Err}
use Rattle.std.specs.List.{list_all, list_any}
use Rattle.canvas_record.specs.declared.edits.Change.{Change}
use Rattle.canvas_record.specs.declared.refusals.Refusal.{Refusal}
use Rattle.canvas_record.specs.Contents.{Contents}
use Rattle.canvas_record.specs.Decision.{decision_of}
use Rattle.canvas_record.specs.Effect.{new_id}
use Rattle.canvas_record.specs.History.{replay_of}
use Rattle.canvas_record.specs.Picture.{colour}
use Rattle.canvas_record.specs.Refused.{refusal_code}
use Rattle.canvas_paint.specs.Pictures.{picture_of}
use Rattle.canvas_world.specs.declared.event.Event.{Event}
use Rattle.canvas_world.specs.declared.event.Event.TheVariants.{Edit, Look, Strip, Answer}
use Rattle.canvas_world.specs.declared.entry.Entry.{Entry}
use Rattle.canvas_world.specs.declared.entry.Entry.TheVariants.{Edited, Refused, Looked, Painted, Tile, Skipped}
use Rattle.canvas_world.specs.declared.cut.Cut.{Cut}
use Rattle.canvas_world.specs.Past.{Past, View, changes_in, cuts_in, edits_in, view_in}

abbrev pub seat_of : Event → ℕ
seat_of (Edit seat edit) = seat
seat_of (Look seat window) = seat
seat_of (Strip seat k n) = seat
seat_of (Answer seat) = seat

-- the entry of an edit of which so much was decided after so many accepted ones
abbrev pub edit_entry : ℕ → Result Change Refusal → Entry
edit_entry before (Ok change) = Edited (before + 1) (new_id change)
edit_entry before (Err why) = Refused (refusal_code why)

-- another strip of the same number of strips
abbrev pub is_beside : Cut → Cut → Bool
is_beside new cut = (cut.n == new.n) && not (cut.k == new.k)

-- strip k of 1 to 16, with no strip of another number and not this one again
abbrev pub may_paint : Cut → List Cut → Bool
may_paint new cuts = (nat_le 1 new.n && nat_le new.n 16) && (nat_lt new.k new.n && list_all (is_beside new) cuts)

abbrev pub strip_entry : Option View → Bool → Entry
strip_entry None allowed = Skipped
strip_entry (Some view) allowed = if allowed then Painted else Skipped

abbrev pub is_cut : ℕ → ℕ → Cut → Bool
is_cut k n cut = (cut.k == k) && (cut.n == n)

-- the strips 0 to m - 1 of n are there
abbrev pub has_below : ℕ → ℕ → List Cut → Bool
has_below zero n cuts = true
has_below (suc k) n cuts = list_any (is_cut k n) cuts && has_below k n cuts

-- there are strips, and all of them
abbrev pub is_whole : List Cut → Bool
is_whole [] = false
is_whole (cut ∷ more) = has_below cut.n cut.n (cut ∷ more)

-- the picture of a window of the document after a history
abbrev pub shown_after : Contents → List Change → View → List ℕ
shown_after start changes view = picture_of (colour (replay_of start (take view.version changes)).records) view.window

abbrev pub answer_entry : Contents → List Change → Option View → Bool → Entry
answer_entry start changes None whole = Skipped
answer_entry start changes (Some view) whole = if whole then Tile view.version view.window (shown_after start changes view) else Skipped

-- the entry of an event of a seat that is there
abbrev pub seated_entry : Contents → Past → Event → Entry
seated_entry start past (Edit seat edit) = edit_entry (edits_in past) (decision_of edit (replay_of start (changes_in start past)))
seated_entry start past (Look seat window) = Looked (edits_in past)
seated_entry start past (Strip seat k n) = strip_entry (view_in seat past) (may_paint (record { k = k; n = n }) (cuts_in seat past))
seated_entry start past (Answer seat) = answer_entry start (changes_in start past) (view_in seat past) (is_whole (cuts_in seat past))

-- the entry of an event
abbrev pub entry_of : Contents → ℕ → Past → Event → Entry
entry_of start seats past event = if nat_lt (seat_of event) seats then seated_entry start past event else Skipped

-- the entries of the events that follow a past
abbrev pub entries_after : Contents → ℕ → Past → List Event → List Entry
entries_after start seats past [] = []
entries_after start seats past (e ∷ events) = let entry = entry_of start seats past e in entry ∷ entries_after start seats (record { event = e; entry = entry } ∷ past) events

-- one entry for each event
abbrev pub transcript_of : Contents → ℕ → List Event → List Entry
transcript_of start seats events = entries_after start seats [] events
