use Rattle.std.proofs.Common.{◌∙◌, ap, FitsSigned, rules, ◌&&◌}
use Rattle.std.specs.Int.{w32, w64}
use Rattle.std.proofs.lemmas.Int.{to_z-of_z}
use Rattle.canvas_shape.specs.Edges.{is_right_of}
use Rattle.canvas_shape.proofs.polygon.edge_cut.Goals as goal

pub returns-clause-value : goal.returns-clause-value
returns-clause-value c = λ x a b.
    let y : FitsSigned w32 c.args.row.y = search rules in
    let t : FitsSigned w64 c.threshold.result = search rules in
    let past = simp to_z-of_z at c.threshold.ensures in
    let placed = simp to_z-of_z at c.place.ensures.value in
    ap (λ u. u && is_right_of c.args.p c.args.q x c.args.row.y) c.requires.crossing ∙ past x ∙ placed x a b
