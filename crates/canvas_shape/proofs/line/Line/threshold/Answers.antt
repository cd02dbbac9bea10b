use Rattle.std.proofs.Common.{FitsSigned, rules}
use Rattle.std.specs.Int.{w64}
use Rattle.std.proofs.lemmas.Int.{to_z-of_z}
use Rattle.canvas_shape.proofs.LineLaws.{line-counts}
use Rattle.canvas_shape.proofs.line.Line.threshold.Goals as goal

pub returns : goal.returns
returns c = λ p q apart x y f e.
    let a : FitsSigned w64 c.args.self.x = search rules in
    let b : FitsSigned w64 c.args.self.here.whole = search rules in
    let t : FitsSigned w64 c.plus.result = search rules in
    simp to_z-of_z (line-counts p q apart x y c.plus.result c.args.self (simp to_z-of_z at c.plus.ensures.value) f e)
