use Rattle.std.proofs.Common.{◌≤◌, ◌-◌, length}
use Rattle.canvas_session.specs.Line.{LacksLf}
use Rattle.canvas_session.specs.Pending.{TakesIn}
use Rattle.canvas_session.proofs.next.read_next.Given as goal

abbrev pub invariant-loop-n : goal.invariant-loop-n
invariant-loop-n g l = record {
  takes : TakesIn (g.R.Read.remaining l.initial.reader) (g.R.Read.remaining l.reader) l.initial.pending l.pending;
  fits : length l.pending ≤ 65537;
  within : l.seen ≤ length l.pending;
  before : LacksLf l.seen l.pending;
}

abbrev pub decreases-loop-n : goal.decreases-loop-n
decreases-loop-n g l = 65537 - length l.pending
