use Rattle.std.proofs.Common.{◌∙◌, FitsSigned, rules}
use Rattle.std.specs.Int.{w64}
use Rattle.std.proofs.lemmas.Int.{to_z-of_z}
use Rattle.canvas_shape.proofs.ellipse.ellipse_holds.Goals as goal

pub returns : goal.returns
returns c =
    let x = c.ranges.x in let y = c.ranges.y in
    let f : FitsSigned w64 c.row_ends.result.from = search rules in
    let t : FitsSigned w64 c.row_ends.result.to = search rules in
    let same = simp to_z-of_z at c.row_ends.ensures in
    simp to_z-of_z at c.hold.ensures ∙ same c.args.x
