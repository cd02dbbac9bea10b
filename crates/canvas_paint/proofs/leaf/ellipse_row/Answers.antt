use Rattle.std.proofs.Common.{rules, ◌<◌, FitsSigned, arith, ◌∙◌}
use Rattle.std.specs.Int.{w32, w64}
use Rattle.std.proofs.lemmas.Int.{to_z-of_z}
use Rattle.canvas_shape.specs.Leaves.{sides_of}
use Rattle.canvas_paint.proofs.Cutting.{ellipse-between}
use Rattle.canvas_paint.proofs.leaf.ellipse_row.Goals as goal

pub returns : goal.returns
returns c = λ k lt.
    let y : FitsSigned w32 c.row_shown.result = search rules in
    let f : FitsSigned w64 c.row_ends-ends.result.from = search rules in
    let t : FitsSigned w64 c.row_ends-ends.result.to = search rules in
    let narrow : k < 256 = omega (arith, c.args.window.now.across.most) in
    c.row_between.ensures k narrow
    ∙ ellipse-between c.args.window.now (sides_of c.args.sides.now) k c.args.y c.columns_before-from.result c.columns_before-to.result c.row_shown.result c.row_ends-ends.result.from c.row_ends-ends.result.to
    (simp to_z-of_z at (c.columns_before-from.ensures.after k lt))
    (simp to_z-of_z at (c.columns_before-to.ensures.before k lt))
    (simp to_z-of_z at c.row_ends-ends.ensures)
    c.row_shown.ensures
