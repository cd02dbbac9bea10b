use Rattle.std.proofs.Common.{FitsSigned, rules, refl}
use Rattle.std.specs.Int.{w64}
use Rattle.std.proofs.lemmas.Int.{to_z-of_z}
use Rattle.canvas_shape.proofs.LineLaws.{next-follows}
use Rattle.canvas_shape.proofs.line.Line.next.Goals as goal

pub returns-clause-follows : goal.returns-clause-follows
returns-clause-follows c = λ p q apart y f.
    let x : FitsSigned w64 c.args.self.x = search rules in
    next-follows p q apart y c.args.self _ (to_z-of_z w64 c.args.self.x x) refl refl refl c.sum.ensures.value f
