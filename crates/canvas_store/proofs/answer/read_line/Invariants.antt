use Rattle.std.proofs.Common.{◌-◌, length}
use Rattle.std.specs.Io.KnownBytes.{Consumes}
use Rattle.canvas_store.proofs.answer.read_line.Given as goal

abbrev pub invariant-loop-line : goal.invariant-loop-line
invariant-loop-line g l = Consumes (g.R.Read.remaining l.initial.reader) (g.R.Read.remaining l.reader) l.line.bytes

abbrev pub decreases-loop-line : goal.decreases-loop-line
decreases-loop-line g l = 255 - length l.line.bytes
