use Rattle.std.proofs.Common.{◌≡◌, ◌-◌, false, length}
use Rattle.std.specs.Io.KnownBytes.{Consumes}
use Rattle.canvas_doors.specs.Foreign.{is_foreign, line_len}
use Rattle.canvas_doors.proofs.first_line.read_first.Given as goal

abbrev pub invariant-loop-first : goal.invariant-loop-first
invariant-loop-first g l = record {
  read : Consumes (g.R.Read.remaining l.initial.reader) (g.R.Read.remaining l.reader) l.first.items;
  unended : line_len l.first.items ≡ length l.first.items;
  untold : is_foreign l.first.items ≡ false;
}

abbrev pub decreases-loop-first : goal.decreases-loop-first
decreases-loop-first g l = 65537 - length l.first.items
