use Rattle.std.proofs.Common.{◌≡◌, ◌≤◌, ℕ, length, take, drop}
use Rattle.std.specs.Io.KnownBytes.{Appends}
use Rattle.canvas_feed.proofs.sending.send_all.Given as goal

abbrev pub invariant-loop-rest : goal.invariant-loop-rest
invariant-loop-rest g l = record {
  at : ℕ;
  rest : l.rest ≡ drop at l.bytes;
  sent : Appends (g.W.Write.contents l.initial.writer) (g.W.Write.contents l.writer) (take at l.bytes);
}

abbrev pub decreases-loop-rest : goal.decreases-loop-rest
decreases-loop-rest g l = length l.rest
