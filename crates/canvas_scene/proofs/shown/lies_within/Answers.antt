use Rattle.std.proofs.Common.{rules, FitsSigned}
use Rattle.std.specs.Int.{w64}
use Rattle.std.proofs.lemmas.Int.{to_z-of_z}
use Rattle.canvas_scene.proofs.Within.{parts-within}
use Rattle.canvas_scene.proofs.shown.lies_within.Goals as goal

pub returns-then-is_across : goal.returns-then-is_across
returns-then-is_across c = λ h.
    let al : FitsSigned w64 c.args.inner.now.left = search rules in
    let a_top : FitsSigned w64 c.args.inner.now.top = search rules in
    let ar : FitsSigned w64 c.args.inner.now.right = search rules in
    let ab : FitsSigned w64 c.args.inner.now.bottom = search rules in
    let bl : FitsSigned w64 c.args.outer.now.left = search rules in
    let bt : FitsSigned w64 c.args.outer.now.top = search rules in
    let br : FitsSigned w64 c.args.outer.now.right = search rules in
    let bb : FitsSigned w64 c.args.outer.now.bottom = search rules in
    let e = simp to_z-of_z at c.is_part-is_across.ensures in
    let f = simp to_z-of_z at c.is_part-is_down.ensures in
    parts-within c.args.inner.now c.args.outer.now c.is_part-is_across.result c.is_part-is_down.result e f c.if-is_across.true h
