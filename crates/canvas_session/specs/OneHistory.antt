-- That all that sessions were asked and answered belongs to one history.
use Rattle.std.specs.Prelude.{◌≡◌, ℕ, false, List, [], ◌∷◌, ◌++◌, ◌⊎◌, take, Result}
use Rattle.std.specs.List.{flat_map, AllByRecursion}
use Rattle.std.specs.Io.KnownBytes.{Consumes, Appends}
use mathlib.Core.List.{IsPrefix}
use Rattle.canvas_record.specs.declared.edits.Change.{Change}
use Rattle.canvas_record.specs.Contents.{Contents}
use Rattle.canvas_wire.specs.declared.request.Request.{Request}
use Rattle.canvas_wire.specs.declared.fault.WireFault.{WireFault}
use Rattle.canvas_look.specs.Seen.{Seen}
use Rattle.canvas_session.specs.Line.{IsLine, ended}
use Rattle.canvas_session.specs.Response.{Response, texts_of}
use Rattle.canvas_session.specs.Transcript.{AreRead}
use Rattle.canvas_session.specs.Session.{Ends, closing_line}
use Rattle.canvas_session.specs.Belongs.{BelongsTo}

-- A session at a document that many edit: its workers, the changes that its board had when it began, all that its seat has seen, of which it has told the first so
-- many, and what was asked and answered.
pub record OneSession : Type 0 where
  pub workers : ℕ
  pub front : List Change
  pub seen : List Change
  pub known : ℕ
  pub requests : List (Result Request WireFault)
  pub answers : List Response

-- of what any two of the seats have seen the one begins the other
abbrev pub AreOfOneLine : List OneSession → Type 0
AreOfOneLine [] = Unit {0}
AreOfOneLine (s ∷ more) = AllByRecursion (λ t. IsPrefix s.seen t.seen ⊎ IsPrefix t.seen s.seen) more × AreOfOneLine more

-- the board that a session began with: others edit too
abbrev pub board_of : Contents → ℕ → OneSession → Seen
board_of opening limit s = record { opening = opening; limit = limit; front = s.front; alone = false }

-- what each of the sessions was asked and answered belongs to the history that this gives for it
abbrev pub EachBelongs : Contents → ℕ → (OneSession → List Change) → List OneSession → Type 0
EachBelongs opening limit history sessions = AllByRecursion (λ s. BelongsTo s.workers (board_of opening limit s) (history s) s.requests s.answers) sessions

-- A session read lines and wrote the texts of its answers, perhaps a closing line, or a beginning of these; what the lines were read as, and what was answered,
-- belongs to the board's history.
pub record SessionTells (workers : ℕ) (e : Ends) : Type 0 where
  pub lines : List (List ℕ)
  pub pending : List ℕ
  pub reads : List (Result Request WireFault)
  pub answers : List Response
  pub closing : List ℕ
  pub written : ℕ
  pub each : AllByRecursion IsLine lines
  pub are_read : AreRead lines reads
  pub took : Consumes e.input e.unread (flat_map ended lines ++ pending)
  pub wrote : Appends e.held e.output (take written (texts_of answers ++ closing))
  pub closes : (closing ≡ []) ⊎ ((closing ≡ closing_line 70) ⊎ (closing ≡ closing_line 73))
  pub belongs : BelongsTo workers e.before e.after.front reads answers
