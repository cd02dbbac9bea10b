use Rattle.std.proofs.Common.{FitsSigned, rules, refl}
use Rattle.std.specs.Int.{w64}
use Rattle.std.proofs.lemmas.Int.{to_z-of_z}
use Rattle.canvas_plane.proofs.page_box.joined.Goals as goal

pub returns : goal.returns
returns c =
    let l : FitsSigned w64 c.lesser.result = record { sfits = c.lesser.type_inv } in
    let t : FitsSigned w64 c.lesser-2.result = record { sfits = c.lesser-2.type_inv } in
    let r : FitsSigned w64 c.greater.result = record { sfits = c.greater.type_inv } in
    let b : FitsSigned w64 c.greater-2.result = record { sfits = c.greater-2.type_inv } in
    let al : FitsSigned w64 c.args.a.now.left = search rules in
    let a_top : FitsSigned w64 c.args.a.now.top = search rules in
    let ar : FitsSigned w64 c.args.a.now.right = search rules in
    let ab : FitsSigned w64 c.args.a.now.bottom = search rules in
    let bl : FitsSigned w64 c.args.b.now.left = search rules in
    let bt : FitsSigned w64 c.args.b.now.top = search rules in
    let br : FitsSigned w64 c.args.b.now.right = search rules in
    let bb : FitsSigned w64 c.args.b.now.bottom = search rules in
    let e = simp to_z-of_z at c.lesser.ensures in
    let f = simp to_z-of_z at c.lesser-2.ensures in
    let g = simp to_z-of_z at c.greater.ensures in
    let h = simp to_z-of_z at c.greater-2.ensures in
    simp to_z-of_z (rw (e, f, g, h) refl)
