-- How a connection is answered.
use Rattle.std.specs.Prelude.{◌≡◌, ℕ, List, Option, Result, IfSome, false, true}
use Rattle.std.specs.Io.KnownBytes.{Appends, Keeps}
use Rattle.canvas_wire.specs.Replies.{line_of, refused}
use Rattle.canvas_session.specs.Session.{Ends, Serves}
use Rattle.canvas_session.specs.declared.fault.SessionFault.{SessionFault}
use Rattle.canvas_session.specs.declared.served.Served.{Served}
use Rattle.canvas_doors.specs.Foreign.{is_foreign}
use Rattle.canvas_server.specs.declared.connection.Answered.{Answered}
use Rattle.canvas_server.specs.declared.connection.Answered.TheVariants.{Foreign, Session, Unread}

-- A session was served. Its input is all that the reader brought, and what it wrote is with the writer, where these tell their bytes.
abbrev pub IsSession : ℕ → Ends → Result Served SessionFault → Type 0
IsSession workers e ended =
    (input : Option (List ℕ)) × (written : Option (List ℕ))
    × Keeps e.input input
    × Serves workers (record { input = input; unread = e.unread; held = e.held; output = written; before = e.before; after = e.after }) ended
    × Keeps written e.output

-- What is no session got the one line of refusal 50, and left the board as it was. All else was a session, or a read failed before its first line was
-- whole: then nothing was written, and the board is as it was.
abbrev pub IsAnswered : ℕ → Ends → Answered → Type 0
IsAnswered workers e Foreign =
    IfSome e.input (λ bytes. is_foreign bytes ≡ true)
    × Appends e.held e.output (line_of (refused 50))
    × (e.after ≡ e.before)
IsAnswered workers e (Session ended) = IfSome e.input (λ bytes. is_foreign bytes ≡ false) × IsSession workers e ended
IsAnswered workers e Unread = (e.output ≡ e.held) × (e.after ≡ e.before)
