-- What a desk and a seat are seen as, and what an edit does to a desk.
use Rattle.std.specs.Prelude.{ℕ, ◌≡◌, ◌+◌, ◌<◌, ◌≤◌, List, [], ◌∷◌, ◌++◌, length, Result, Ok, Err, Option, Some, None}
use Rattle.canvas_record.specs.declared.edits.Change.{Change}
use Rattle.canvas_record.specs.declared.edits.Edit.{Edit}
use Rattle.canvas_record.specs.Contents.{Contents}
use Rattle.canvas_record.specs.Damage.{damage_of}
use Rattle.canvas_record.specs.Decision.{decision_of}
use Rattle.canvas_record.specs.Effect.{effect_of, Fits, new_id}
use Rattle.canvas_record.specs.History.{replay_of}
use Rattle.canvas_line.specs.declared.version.Version.{Version}
use Rattle.canvas_look.specs.declared.answers.Edited.{Edited}
use Rattle.canvas_line.specs.declared.fault.LineFault.{LineFault}
use Rattle.canvas_line.specs.declared.fault.LineFault.TheVariants as fault
use Rattle.canvas_line.specs.declared.recorder.Taken.{Taken}
use Rattle.canvas_line.specs.Recent.{last_64}
use Rattle.canvas_line.specs.Recording.{MakesRest}
use Rattle.canvas_line.specs.Standing.{Shown}
use Rattle.canvas_line.specs.Trails.{Facts}

-- a line at its desk: its name, the document that it was opened with, how many changes it may accept, and those that it accepted;
-- where it records, the edits of how many of these were taken
pub record Line : Type 0 where
  pub name : ℕ
  pub opening : Contents
  pub limit : ℕ
  pub history : List Change
  pub taken : Option ℕ

-- a line from a seat: the same, with the changes that the seat has seen
pub record Sight : Type 0 where
  pub name : ℕ
  pub opening : Contents
  pub limit : ℕ
  pub front : List Change

abbrev pub with_history : Line → List Change → Line
with_history l h = record { name = l.name; opening = l.opening; limit = l.limit; history = h; taken = l.taken }

abbrev pub with_taken : Line → Option ℕ → Line
with_taken l taken = record { name = l.name; opening = l.opening; limit = l.limit; history = l.history; taken = taken }

abbrev pub with_front : Sight → List Change → Sight
with_front s h = record { name = s.name; opening = s.opening; limit = s.limit; front = h }

abbrev pub line_of : ℕ → Facts → List Change → Option ℕ → Line
line_of name f history taken = record { name = name; opening = f.opening; limit = f.limit; history = history; taken = taken }

abbrev pub sight_of : ℕ → Facts → List Change → Sight
sight_of name f front = record { name = name; opening = f.opening; limit = f.limit; front = front }

-- w is v with the change that the edit becomes
abbrev pub Follows : Version → ℕ → Edit → Change → Version → Type 0
Follows v limit e c w =
    (decision_of e v.document ≡ Ok c) × Fits c v.document × (v.number < limit)
    × (w.number ≡ v.number + 1) × (w.change ≡ Some c) × (w.document ≡ effect_of c v.document)
    × (w.recent ≡ last_64 (v.recent ++ record { number = v.number + 1; area = damage_of c v.document } ∷ []))

-- what is decided of an edit at a document: a change that fits, or a refusal; memory is wanted only in place of a change
abbrev pub Decides : Contents → Edit → Result Change LineFault → Type 0
Decides d e (Ok c) = (decision_of e d ≡ Ok c) × Fits c d
Decides d e (Err fault.OutOfMemory) = (c : Change) × (decision_of e d ≡ Ok c)
Decides d e (Err (fault.Refused why)) = decision_of e d ≡ Err why
Decides d e (Err _) = ⊥

-- the reason stands at this version
abbrev pub RefusedAt : Version → ℕ → Edit → LineFault → Type 0
RefusedAt v limit e fault.OutOfMemory = (c : Change) × (decision_of e v.document ≡ Ok c) × (v.number < limit)
RefusedAt v limit e fault.VersionsSpent = limit ≤ v.number
RefusedAt v limit e (fault.Refused why) = (v.number < limit) × (decision_of e v.document ≡ Err why)
RefusedAt v limit e _ = ⊥

-- what is to be published after a history, and what is answered then
abbrev pub Next : Facts → Contents → ℕ → List Change → Edit → Shown → Edited → Type 0
Next f opening limit h e p r =
    (c : Change) × (decision_of e (replay_of opening h) ≡ Ok c) × (length h < limit) × (p.facts ≡ f) × (p.changes ≡ h ++ c ∷ [])
    × (r.number ≡ length p.changes) × (r.id ≡ new_id c)

-- the edit was accepted: it became one change, and the history has it at its end
abbrev pub Accepts : Line → Edit → Line → Edited → Type 0
Accepts l e m r =
    (c : Change) × (decision_of e (replay_of l.opening l.history) ≡ Ok c) × (length l.history < l.limit) × (m ≡ with_history l (l.history ++ c ∷ []))
    × (r.number ≡ length m.history) × (r.id ≡ new_id c)

-- the reason stands at this history; memory is wanted only in place of a change
abbrev pub Rightly : Contents → ℕ → List Change → Edit → LineFault → Type 0
Rightly opening limit h e fault.OutOfMemory = (c : Change) × (decision_of e (replay_of opening h) ≡ Ok c) × (length h < limit)
Rightly opening limit h e fault.VersionsSpent = length h ≡ limit
Rightly opening limit h e (fault.Refused why) = (length h < limit) × (decision_of e (replay_of opening h) ≡ Err why)
Rightly opening limit h e _ = ⊥

-- the line records from now on, if it did not before
abbrev pub recording : Line → Option ℕ → Line
recording l None = with_taken l (Some (length l.history))
recording l (Some taken) = l

-- what is pending is given, and counts as taken: with what was taken before it makes the history. A line that does not record
-- gives nothing
abbrev pub Takes : Line → Option Taken → Line → Type 0
Takes l None m = (l.taken ≡ None) × (m ≡ l)
Takes l (Some t) m =
    (l.taken ≡ Some t.before) × MakesRest l.opening l.history t.before t.edits.items × (m ≡ with_taken l (Some (length l.history)))
