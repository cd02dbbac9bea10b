use Rattle.std.proofs.Common.{◌≡◌, ◌+◌, ◌++◌, length, map}
use Rattle.canvas_journal.specs.Lines.{recovered, text}
use Rattle.canvas_journal.proofs.reading.read_lines.Given as goal

abbrev pub invariant-loop-line : goal.invariant-loop-line
invariant-loop-line l = record {
  read : map (λ v. v.items) l.lines.items ++ recovered l.rest ≡ recovered l.bytes;
  size : length (text (map (λ v. v.items) l.lines.items)) + length l.rest ≡ length l.bytes;
}

abbrev pub decreases-loop-line : goal.decreases-loop-line
decreases-loop-line l = length l.rest
