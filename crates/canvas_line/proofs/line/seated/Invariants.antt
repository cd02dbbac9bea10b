use Rattle.std.proofs.Common.{◌≡◌, All, vec_len}
use Rattle.canvas_line.specs.Lines.{sight_of}
use Rattle.canvas_line.proofs.line.seated.Given as goal

abbrev pub invariant-loop-seat : goal.invariant-loop-seat
invariant-loop-seat g l = (vec_len l.all ≡ l.seat) × All (λ s. s ≡ sight_of l.name (g.B.Lines.line l.name) l.trace.changes) l.all.items
