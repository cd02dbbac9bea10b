use Rattle.std.proofs.Common.{FitsSigned, rules}
use Rattle.std.specs.Int.{w32}
use Rattle.std.proofs.lemmas.Int.{to_z-of_z}
use Rattle.canvas_doc.proofs.boxes.BoundsLaws.{apart-by}
use Rattle.canvas_doc.proofs.bounds.Bounds.meets.Goals as goal

pub returns : goal.returns
returns c =
    let l : FitsSigned w32 c.args.self.now.left = search rules in
    let t : FitsSigned w32 c.args.self.now.top = search rules in
    let r : FitsSigned w32 c.args.self.now.right = search rules in
    let b : FitsSigned w32 c.args.self.now.bottom = search rules in
    let al : FitsSigned w32 c.args.area.now.left = search rules in
    let at : FitsSigned w32 c.args.area.now.top = search rules in
    let ar : FitsSigned w32 c.args.area.now.right = search rules in
    let ab : FitsSigned w32 c.args.area.now.bottom = search rules in
    apart-by c.args.self.now c.args.area.now c.overlaps-is_across.result c.overlaps-is_down.result (simp to_z-of_z at c.overlaps-is_across.ensures) (simp to_z-of_z at c.overlaps-is_down.ensures)
