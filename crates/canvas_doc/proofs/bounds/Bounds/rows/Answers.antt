use Rattle.std.proofs.Common.{FitsSigned, rules}
use Rattle.std.specs.Int.{w32}
use Rattle.std.proofs.lemmas.Int.{to_z-of_z}
use Rattle.canvas_doc.proofs.bounds.Bounds.rows.Goals as goal

pub returns : goal.returns
returns c =
    let from : FitsSigned w32 c.args.self.now.top = search rules in
    let to : FitsSigned w32 c.args.self.now.bottom = search rules in
    simp to_z-of_z at c.slabs_between.ensures
