use Rattle.std.proofs.Common.{FitsSigned, rules}
use Rattle.std.specs.Int.{w32}
use Rattle.std.proofs.lemmas.Int.{to_z-of_z}
use Rattle.canvas_doc.proofs.boxes.BoundsLaws.{spanned-within}
use Rattle.canvas_doc.proofs.bounds.Bounds.contains.Goals as goal

pub returns : goal.returns
returns c =
    let l : FitsSigned w32 c.args.self.now.left = search rules in
    let t : FitsSigned w32 c.args.self.now.top = search rules in
    let r : FitsSigned w32 c.args.self.now.right = search rules in
    let b : FitsSigned w32 c.args.self.now.bottom = search rules in
    let ol : FitsSigned w32 c.args.other.now.left = search rules in
    let ot : FitsSigned w32 c.args.other.now.top = search rules in
    let or : FitsSigned w32 c.args.other.now.right = search rules in
    let ob : FitsSigned w32 c.args.other.now.bottom = search rules in
    spanned-within c.args.other.now c.args.self.now c.is_empty.result c.spans-is_across.result c.spans-is_down.result c.is_empty.ensures (simp to_z-of_z at c.spans-is_across.ensures) (simp to_z-of_z at c.spans-is_down.ensures)
