use Rattle.std.proofs.Common.{rules, ap, ◌∙◌, FitsSigned, w32, w64}
use Rattle.std.proofs.lemmas.Int.{to_z-of_z}
use Rattle.canvas_shape.specs.Leaves.{sides_of}
use Rattle.canvas_shape.specs.Ellipse.{is_in_ellipse}
use Rattle.canvas_paint.proofs.leaf.mirrored.Goals as goal

pub returns-in-Some : goal.returns-in-Some
returns-in-Some c = λ x.
    let m : FitsSigned w64 c.mirror.result = search rules in
    let y : FitsSigned w32 c.row_shown.result = search rules in
    let same = simp to_z-of_z at c.mirror.ensures.same in
    let at = simp to_z-of_z at c.in-Some.ensures in
    ap (is_in_ellipse (sides_of c.args.sides.now) x) at ∙ same x ∙ ap (is_in_ellipse (sides_of c.args.sides.now) x) c.row_shown.ensures
