use Rattle.std.proofs.Common.{rules, FitsSigned, arith, ◌<◌}
use Rattle.std.specs.Int.{w64}
use Rattle.std.proofs.lemmas.Int.{to_z-of_z}
use Rattle.canvas_paint.proofs.Cutting.{region-is}
use Rattle.canvas_paint.proofs.block.Region.of.Goals as goal

pub returns-clause-exact : goal.returns-clause-exact
returns-clause-exact c = λ k j lt p q.
    let box = c.args.sides.now in
    let l : FitsSigned w64 box.left = search rules in
    let r : FitsSigned w64 box.right = search rules in
    let t : FitsSigned w64 box.top = search rules in
    let b : FitsSigned w64 box.bottom = search rules in
    let down : j < c.args.window.now.h = omega arith in
    region-is c.args.window.now box c.columns_before.result c.columns_before-2.result c.rows_before.result c.rows_before-2.result c.args.first c.args.end c.max.result c.min.result k j
    (simp to_z-of_z at (c.columns_before.ensures.after k lt))
    (simp to_z-of_z at (c.columns_before-2.ensures.before k lt))
    (simp to_z-of_z at (c.rows_before.ensures.after j down))
    (simp to_z-of_z at (c.rows_before-2.ensures.before j down))
    (omega arith) (omega arith) p q
