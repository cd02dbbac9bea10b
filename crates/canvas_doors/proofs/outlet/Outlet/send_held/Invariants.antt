use Rattle.std.specs.Io.KnownBytes.{Keeps}
use Rattle.std.proofs.Common.{vec_len}
use Rattle.canvas_doors.specs.Outlet.{given_to}
use Rattle.canvas_doors.proofs.outlet.Outlet.send_held.Given as goal

abbrev pub invariant-loop-self : goal.invariant-loop-self
invariant-loop-self g l = Keeps (given_to g.W.Write.contents l.initial.self) (given_to g.W.Write.contents l.self)

abbrev pub decreases-loop-self : goal.decreases-loop-self
decreases-loop-self g l = vec_len l.self.held
