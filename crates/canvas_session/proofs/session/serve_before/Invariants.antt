use Rattle.std.proofs.Common.{◌≤◌, ◌-◌, ◌*◌, length}
use Rattle.canvas_session.proofs.Exchanges.{ends}
use Rattle.canvas_session.specs.Session.{IsSession}
use Rattle.canvas_session.proofs.session.serve_before.Given as goal

abbrev pub invariant-lines : goal.invariant-lines
invariant-lines g l = record {
  session : IsSession l.workers (ends (g.R.Read.remaining l.initial.reader) (g.R.Read.remaining l.reader) (g.W.Write.contents l.initial.writer) (g.W.Write.contents l.writer)
      (g.B.Board.seen l.initial.board) (g.B.Board.seen l.board)) l.pending l.requests l.written;
  few : l.requests ≤ 1000000;
  small : l.written ≤ l.requests * 2199023255552;
  fits : length l.pending ≤ 65537;
}

abbrev pub decreases-lines : goal.decreases-lines
decreases-lines g l = 1000001 - l.requests
