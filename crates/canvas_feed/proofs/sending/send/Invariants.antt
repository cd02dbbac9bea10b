use Rattle.std.proofs.Common.{◌≡◌, ◌≤◌, ◌-◌, List, ℕ, take, drop, Some}
use Rattle.std.specs.Io.KnownBytes.{Appends}
use Rattle.canvas_feed.proofs.sending.send.Given as goal

abbrev pub invariant-loop-at : goal.invariant-loop-at
invariant-loop-at g l = record {
  behind : l.from ≤ l.at;
  within : l.at ≤ l.to;
  sent : (bytes : List ℕ) → g.F.Shelf.bytes l.file ≡ Some bytes
      → Appends (g.W.Write.contents l.initial.writer) (g.W.Write.contents l.writer) (take (l.at - l.from) (drop l.from bytes));
}

abbrev pub decreases-loop-at : goal.decreases-loop-at
decreases-loop-at g l = l.to - l.at
