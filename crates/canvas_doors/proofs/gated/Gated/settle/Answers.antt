use Rattle.std.proofs.Common.{rules}
use Rattle.canvas_doors.proofs.Passing.{passed_on}
use Rattle.canvas_doors.proofs.gated.Gated.settle.Goals as goal

pub returns-in-Some-clause-settled : goal.returns-in-Some-clause-settled
returns-in-Some-clause-settled g c =
    passed_on (g.G.Settles.settled c.args.self.now.gate.now) g.K.Connection.settled c.settle.result _ _ c.args.self.now.tells (search rules) c.settle.ensures
