-- What a call does to a seat's front.
use Rattle.std.specs.Prelude.{ℕ, ◌≡◌, ◌≢◌, ◌⊎◌, ◌<◌, ◌≤◌, ◌&&◌, nat_eq, nat_le, Bool, true, false, List, [], ◌∷◌, ◌++◌, length, Option, None, Some, Result, Ok, Err}
use mathlib.Core.List.{IsPrefix}
use Rattle.canvas_record.specs.declared.edits.Change.{Change}
use Rattle.canvas_record.specs.declared.edits.Edit.{Edit}
use Rattle.canvas_record.specs.Decision.{decision_of}
use Rattle.canvas_record.specs.Effect.{new_id}
use Rattle.canvas_record.specs.History.{replay_of, AllFit}
use Rattle.canvas_line.specs.declared.version.Version.{Version}
use Rattle.canvas_look.specs.declared.answers.Edited.{Edited}
use Rattle.canvas_line.specs.declared.fault.LineFault.{LineFault}
use Rattle.canvas_line.specs.declared.fault.LineFault.TheVariants as fault
use Rattle.canvas_line.specs.declared.recorder.Taken.{Taken}
use Rattle.canvas_line.specs.Recording.{MakesRest}
use Rattle.canvas_line.specs.Standing.{IsVersionOf}
use Rattle.canvas_line.specs.Lines.{Line, Sight, with_front}

-- a line can be opened with so many seats and such a limit
abbrev pub is_setting : ℕ → ℕ → Bool
is_setting seats limit = nat_le 1 seats && nat_le seats 64 && nat_le 1 limit && nat_le limit 1000000

-- why a line is not opened: only a bad setting is refused as one, and before all else
abbrev pub OpenRefused : ℕ → ℕ → LineFault → Type 0
OpenRefused seats limit fault.BadSetting = is_setting seats limit ≡ false
OpenRefused seats limit fault.NoSeats = is_setting seats limit ≡ true
OpenRefused seats limit fault.OutOfMemory = is_setting seats limit ≡ true
OpenRefused seats limit _ = ⊥

-- the changes fit where they stand, and are no more than the line may accept
abbrev pub IsHistoryOf : Sight → List Change → Type 0
IsHistoryOf s h = AllFit s.opening h × (length h ≤ s.limit)

-- the front goes on as a history of the line, and nothing else changes
abbrev pub GoesOn : Sight → Sight → Type 0
GoesOn s t = IsPrefix s.front t.front × IsHistoryOf s t.front × (t ≡ with_front s t.front)

-- both are of one line, and the front of the second begins with that of the first
abbrev pub Begins : Sight → Sight → Type 0
Begins s t = IsPrefix s.front t.front × (t ≡ with_front s t.front)

-- both are of one line, and the second has seen no less than the first
abbrev pub is_no_further : Sight → Sight → Bool
is_no_further s t = nat_eq s.name t.name && nat_le (length s.front) (length t.front)

-- both are of one line, and have seen as much
abbrev pub is_as_far : Sight → Sight → Bool
is_as_far s t = nat_eq s.name t.name && nat_eq (length s.front) (length t.front)

-- the version stands at the end of the new front, which begins with the old one
abbrev pub Looks : Sight → Sight → Version → Type 0
Looks s t v = GoesOn s t × IsVersionOf s.opening s.limit t.front v

-- the desk is the seat's, and its history begins with the front
abbrev pub IsAt : Sight → Line → Type 0
IsAt s l = (l.name ≡ s.name) × (l.opening ≡ s.opening) × (l.limit ≡ s.limit) × IsPrefix s.front l.history × IsHistoryOf s l.history

-- the desk is another line's, or behind the front
abbrev pub Apart : Sight → LineFault → Type 0
Apart s (fault.Behind desk front) = (front ≡ length s.front) × (desk < front)
Apart s (fault.Strangers own found) = (own ≡ s.name) × (found ≢ s.name)
Apart s _ = ⊥

-- the edit became one change after a history that begins with the front
abbrev pub EditAccepted : Sight → Edit → Sight → Edited → Type 0
EditAccepted s e t r =
    (h : List Change) × (c : Change) × IsPrefix s.front h × (length h < s.limit) × (decision_of e (replay_of s.opening h) ≡ Ok c)
    × (t ≡ with_front s (h ++ c ∷ [])) × AllFit s.opening t.front × (r.number ≡ length t.front) × (r.id ≡ new_id c)

-- memory is wanted, and nothing else stands against the edit: after a history that begins with the front a change is decided
abbrev pub WantsMemory : Sight → Edit → Type 0
WantsMemory s e =
    (h : List Change) × (c : Change) × IsPrefix s.front h × IsHistoryOf s h × (length h < s.limit) × (decision_of e (replay_of s.opening h) ≡ Ok c)

-- the edit was refused, at the new front if the fault speaks of one
abbrev pub EditRefused : Sight → Edit → Sight → LineFault → Type 0
EditRefused s e t fault.OutOfMemory = (t ≡ s) × WantsMemory s e
EditRefused s e t fault.VersionsSpent = GoesOn s t × (length t.front ≡ s.limit)
EditRefused s e t (fault.Refused why) = GoesOn s t × (length t.front < s.limit) × (decision_of e (replay_of s.opening t.front) ≡ Err why)
EditRefused s e t (fault.Behind desk front) = (t ≡ s) × (front ≡ length s.front) × (desk < front)
EditRefused s e t (fault.Strangers own found) = (t ≡ s) × (own ≡ s.name) × (found ≢ s.name)
EditRefused s e t _ = ⊥

-- after an answer that speaks of the new front, this is the desk's history
abbrev pub KeepsUp : Line → Result Edited LineFault → Sight → Type 0
KeepsUp l (Ok r) t = t.front ≡ l.history
KeepsUp l (Err fault.VersionsSpent) t = t.front ≡ l.history
KeepsUp l (Err (fault.Refused why)) t = t.front ≡ l.history
KeepsUp l (Err _) t = Unit {0}

-- both fronts go on to be one
abbrev pub Meets : Sight → Sight → Sight → Sight → Type 0
Meets s t s' t' = GoesOn s s' × GoesOn t t' × (s'.front ≡ t'.front)

abbrev pub MeetRefused : Sight → Sight → Sight → Sight → LineFault → Type 0
MeetRefused s t s' t' (fault.Behind desk front) = (s' ≡ s) × (t' ≡ t) × ((front ≡ length s.front) ⊎ (front ≡ length t.front)) × (desk < front)
MeetRefused s t s' t' (fault.Strangers own found) = (s' ≡ s) × (t' ≡ t) × ((own ≡ s.name) ⊎ (own ≡ t.name)) × (found ≢ own)
MeetRefused s t s' t' _ = ⊥

-- the edits that were taken make all changes of the new front but the first `before`
abbrev pub TakesAt : Sight → Sight → Option Taken → Type 0
TakesAt s t None = GoesOn s t
TakesAt s t (Some taken) = GoesOn s t × MakesRest s.opening t.front taken.before taken.edits.items

-- nothing changed, since the desk is another line's, or behind the front
abbrev pub Stays : Sight → Sight → LineFault → Type 0
Stays s t f = (t ≡ s) × Apart s f
