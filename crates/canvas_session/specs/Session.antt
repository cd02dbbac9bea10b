-- A session: what was read, what was written, and what the board is then.
use Rattle.std.specs.Prelude.{◌≡◌, ℕ, ◌+◌, ◌<◌, ◌≤◌, ◌⊎◌, List, [], ◌++◌, length, take, slice_index, Option, Result, Ok, Err}
use Rattle.std.specs.List.{flat_map, AllByRecursion}
use Rattle.std.specs.Io.KnownBytes.{Consumes, Appends, IsAtEnd}
use Rattle.canvas_wire.specs.declared.request.Request.{Request}
use Rattle.canvas_wire.specs.declared.fault.WireFault.{WireFault}
use Rattle.canvas_wire.specs.Replies.{refused, line_of}
use Rattle.canvas_look.specs.Seen.{Seen}
use Rattle.canvas_session.specs.Line.{LacksLf, HasNoLf, IsLine, ended, AreAllLines, AreFirstLines}
use Rattle.canvas_session.specs.Response.{Response, texts_of}
use Rattle.canvas_session.specs.Transcript.{AreRead, IsTranscript}
use Rattle.canvas_session.specs.declared.fault.Cause.{Cause}
use Rattle.canvas_session.specs.declared.fault.Cause.TheVariants.{OutOfMemory, LineTooLong, ReadFault, WriteFault, TooManyRequests, CutLine}
use Rattle.canvas_session.specs.declared.fault.SessionFault.{SessionFault}
use Rattle.canvas_session.specs.declared.served.Served.{Served}
use Rattle.canvas_session.specs.Cause.{cause_code}

-- What a session works on: the bytes that its reader has left and that its writer holds, where they are told, and the board; each before and after.
pub record Ends : Type 0 where
  pub input : Option (List ℕ)
  pub unread : Option (List ℕ)
  pub held : Option (List ℕ)
  pub output : Option (List ℕ)
  pub before : Seen
  pub after : Seen

-- The lines were read and answered by a board of so many workers, and `pending` came besides.
pub record Exchange (workers : ℕ) (e : Ends) (pending : List ℕ) : Type 0 where
  pub lines : List (List ℕ)
  pub reads : List (Result Request WireFault)
  pub answers : List Response
  pub each : AllByRecursion IsLine lines
  pub few : length lines ≤ 1000000
  pub are_read : AreRead lines reads
  pub steps : IsTranscript workers e.before reads answers e.after
  pub took : Consumes e.input e.unread (flat_map ended lines ++ pending)

-- The responses were written, and nothing else.
pub record IsSession (workers : ℕ) (e : Ends) (pending : List ℕ) (requests written : ℕ) : Type 0 where
  pub talk : Exchange workers e pending
  pub wrote : Appends e.held e.output (texts_of talk.answers)
  pub counted : requests ≡ length talk.lines
  pub bytes : written ≡ length (texts_of talk.answers)

-- the line that ends a session with a code
abbrev pub closing_line : ℕ → List ℕ
closing_line code = line_of (refused code)

-- What ending with a closing line did: some of its bytes went out, and these are all unless writing failed.
pub record Closes (held output : Option (List ℕ)) (cause : Cause) (answered written : ℕ) (fault : SessionFault) : Type 0 where
  pub sent : ℕ
  pub within : sent ≤ length (closing_line (cause_code cause))
  pub wrote : Appends held output (take sent (closing_line (cause_code cause)))
  pub answered_same : fault.answered ≡ answered
  pub more : fault.written ≡ written + sent
  pub whole : ((fault.cause ≡ cause) × (sent ≡ length (closing_line (cause_code cause)))) ⊎ (fault.cause ≡ WriteFault)

-- The responses were written, and then a closing line.
pub record IsClosed (workers code : ℕ) (e : Ends) (pending : List ℕ) (answered written : ℕ) : Type 0 where
  pub talk : Exchange workers e pending
  pub wrote : Appends e.held e.output (texts_of talk.answers ++ closing_line code)
  pub counted : answered ≡ length talk.lines
  pub bytes : written ≡ length (texts_of talk.answers ++ closing_line code)

-- 65,537 bytes came without an LF
abbrev pub IsTooLong : List ℕ → Type 0
IsTooLong pending = (length pending ≡ 65537) × HasNoLf pending

-- a whole line came
abbrev pub HasLine : List ℕ → Type 0
HasLine pending = (n : ℕ) × (n ≤ 65536) × (n < length pending) × LacksLf n pending × (slice_index pending n ≡ 10)

-- the closing line that may have begun: none, or one that has its cause
abbrev pub MayClose : ℕ → List ℕ → List ℕ → Type 0
MayClose answered pending closing = (closing ≡ []) ⊎ (((closing ≡ closing_line 70) × IsTooLong pending) ⊎ ((closing ≡ closing_line 73) × (answered ≡ 1000000) × HasLine pending))

-- Writing ended early: what was written is a beginning of the responses and the closing line. All lines but the last, or all of them, were answered in full.
pub record IsBroken (workers : ℕ) (e : Ends) (answered written : ℕ) : Type 0 where
  pub pending : List ℕ
  pub talk : Exchange workers e pending
  pub closing : List ℕ
  pub closes : MayClose answered pending closing
  pub wrote : Appends e.held e.output (take written (texts_of talk.answers ++ closing))
  pub within : written ≤ length (texts_of talk.answers ++ closing)
  pub whole : length (texts_of (take answered talk.answers)) ≤ written
  pub counted : (answered ≡ length talk.lines) ⊎ ((answered + 1 ≡ length talk.lines) × (written < length (texts_of talk.answers)))
  pub lines : AreFirstLines e.input talk.lines

-- nothing was read, written or changed
pub record IsUntouched (e : Ends) : Type 0 where
  pub reader : e.unread ≡ e.input
  pub writer : e.output ≡ e.held
  pub board : e.after ≡ e.before

-- The input has ended, and each of its lines was answered.
pub record IsServed (workers : ℕ) (e : Ends) (requests written : ℕ) : Type 0 where
  pub session : IsSession workers e [] requests written
  pub at_end : IsAtEnd e.unread
  pub lines : AreAllLines e.input session.talk.lines

-- The input ended inside a line. The lines before it were answered.
pub record IsCut (workers : ℕ) (e : Ends) (answered written : ℕ) : Type 0 where
  pub rest : List ℕ
  pub session : IsSession workers e rest answered written
  pub inside : 0 < length rest
  pub short : length rest ≤ 65536
  pub whole : HasNoLf rest
  pub at_end : IsAtEnd e.unread
  pub lines : AreAllLines e.input session.talk.lines

-- A read failed. The lines that had come whole were answered.
pub record IsUnread (workers : ℕ) (e : Ends) (answered written : ℕ) : Type 0 where
  pub rest : List ℕ
  pub session : IsSession workers e rest answered written
  pub short : length rest ≤ 65536
  pub whole : HasNoLf rest
  pub lines : AreFirstLines e.input session.talk.lines

-- A line was too long. The lines before it were answered, and then it was refused.
pub record IsTooLongClosed (workers : ℕ) (e : Ends) (answered written : ℕ) : Type 0 where
  pub pending : List ℕ
  pub closed : IsClosed workers 70 e pending answered written
  pub long : IsTooLong pending
  pub lines : AreAllLines e.input closed.talk.lines

-- One line more came than a session answers. It was refused.
pub record IsSpentClosed (workers : ℕ) (e : Ends) (answered written : ℕ) : Type 0 where
  pub pending : List ℕ
  pub closed : IsClosed workers 73 e pending answered written
  pub most : answered ≡ 1000000
  pub another : HasLine pending
  pub lines : AreAllLines e.input closed.talk.lines

-- what each cause of an early end says
abbrev pub IsStopped : ℕ → Ends → Cause → ℕ → ℕ → Type 0
IsStopped workers e OutOfMemory answered written = IsUntouched e × (answered ≡ 0) × (written ≡ 0)
IsStopped workers e LineTooLong answered written = IsTooLongClosed workers e answered written
IsStopped workers e ReadFault answered written = IsUnread workers e answered written
IsStopped workers e WriteFault answered written = IsBroken workers e answered written
IsStopped workers e TooManyRequests answered written = IsSpentClosed workers e answered written
IsStopped workers e CutLine answered written = IsCut workers e answered written

-- what a session did
abbrev pub Serves : ℕ → Ends → Result Served SessionFault → Type 0
Serves workers e (Ok served) = IsServed workers e served.requests served.written
Serves workers e (Err fault) = IsStopped workers e fault.cause fault.answered fault.written
