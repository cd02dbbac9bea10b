use Rattle.std.proofs.Common.{rules, FitsSigned}
use Rattle.std.specs.Int.{w64}
use Rattle.std.proofs.lemmas.Int.{to_z-of_z}
use Rattle.canvas_scene.specs.Places.{cell_of}
use Rattle.canvas_scene.proofs.Sides.{run-within}
use Rattle.canvas_scene.proofs.side.Side.within.Goals as goal

pub returns : goal.returns
returns c = λ x side h.
    let from : FitsSigned w64 c.args.from = search rules in
    let to : FitsSigned w64 c.args.to = search rules in
    let p = simp to_z-of_z at c.begun.ensures.past in
    let q = simp to_z-of_z at c.ended.ensures.before in
    run-within c.args.from c.args.to x c.begun.result c.ended.result (cell_of c.args.self.now.start c.args.self.now.shift x) (p x side) (q x side) h
