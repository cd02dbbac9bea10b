use Rattle.std.proofs.Common.{FitsSigned, rules, refl}
use Rattle.std.specs.Int.{w64}
use Rattle.std.proofs.lemmas.Int.{to_z-of_z}
use Rattle.canvas_doc.proofs.damage.grown.Goals as goal

pub returns : goal.returns
returns c =
    let l : FitsSigned w64 c.lesser.result = search rules in
    let t : FitsSigned w64 c.lesser-2.result = search rules in
    let r : FitsSigned w64 c.greater.result = search rules in
    let b : FitsSigned w64 c.greater-2.result = search rules in
    let px : FitsSigned w64 c.args.p.x = search rules in
    let py : FitsSigned w64 c.args.p.y = search rules in
    let bl : FitsSigned w64 c.args.b.left = search rules in
    let bt : FitsSigned w64 c.args.b.top = search rules in
    let br : FitsSigned w64 c.args.b.right = search rules in
    let bb : FitsSigned w64 c.args.b.bottom = search rules in
    let e = simp to_z-of_z at c.lesser.ensures in
    let f = simp to_z-of_z at c.lesser-2.ensures in
    let g = simp to_z-of_z at c.greater.ensures in
    let h = simp to_z-of_z at c.greater-2.ensures in
    simp to_z-of_z (rw (e, f, g, h) refl)
