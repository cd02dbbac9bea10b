use Rattle.std.proofs.Common.{sym, FitsSigned, rules, ℤ, subst}
use Rattle.std.specs.Int.{w64, int_max}
use Rattle.std.proofs.lemmas.Int.{to_z-of_z}
use Rattle.canvas_shape.specs.Ellipse.{IsSide}
use Rattle.canvas_shape.proofs.Sides.{side-between}
use Rattle.canvas_shape.proofs.leaves.ends.Goals as goal

pub returns-clause-side : goal.returns-clause-side
returns-clause-side c =
    let a = c.ranges.a in let b = c.ranges.b in
    let m : FitsSigned w64 c.min.result = search rules in
    let n : FitsSigned w64 c.max.result = search rules in
    let P : ℤ → Type 0 = λ z. IsSide z (int_max c.args.a c.args.b) in
    let Q : ℤ → Type 0 = λ z. IsSide c.min.result z in
    simp to_z-of_z (subst Q (sym (simp to_z-of_z at c.max.ensures.value)) (subst P (sym (simp to_z-of_z at c.min.ensures.value)) (side-between c.args.a c.args.b c.requires.first c.requires.second c.requires.apart)))
