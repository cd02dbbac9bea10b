use Rattle.std.proofs.Common.{◌≡◌, IfSome, subst}
use Rattle.std.specs.Arc.{arc_value}
use Rattle.canvas_line.specs.Standing.{IsVersionOf}
use Rattle.canvas_line.proofs.viewer.Viewer.viewed.Goals as goal

pub new-requires : goal.new-requires
new-requires g c = (c.read-reader.ensures (g.B.Lines.line c.self.inside.name) c.self.invariant).0

pub returns-clause-latest : goal.returns-clause-latest
returns-clause-latest g c =
    subst (λ n. IfSome c.read-reader.result.1 (λ l. (l.trace.book ≡ (g.B.Lines.line n).book) × IsVersionOf (g.B.Lines.line n).opening (g.B.Lines.line n).limit l.trace.changes (arc_value l.version)))
    c.self.view_is (c.read-reader.ensures (g.B.Lines.line c.self.inside.name) c.self.invariant).1
