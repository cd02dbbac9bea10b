use Rattle.std.proofs.Common.{◌∙◌, ap, sym, FitsSigned, rules, ◌&&◌}
use Rattle.std.specs.Int.{w64}
use Rattle.std.proofs.lemmas.Int.{to_z-of_z}
use Rattle.canvas_shape.specs.Edges.{is_right_of}
use Rattle.canvas_shape.proofs.polygon.edge_counts.Goals as goal

pub returns-then-crosses : goal.returns-then-crosses
returns-then-crosses c =
    let x = c.ranges.x in let y = c.ranges.y in
    let t : FitsSigned w64 c.threshold.result = search rules in
    let past = simp to_z-of_z at c.threshold.ensures in
    simp to_z-of_z at c.is_before.ensures ∙ sym (ap (λ u. u && is_right_of c.args.p c.args.q c.args.x c.args.y) (sym (simp to_z-of_z at c.crosses.ensures) ∙ c.if-crosses.true) ∙ past c.args.x)

pub returns-else-crosses : goal.returns-else-crosses
returns-else-crosses c =
    let x = c.ranges.x in let y = c.ranges.y in
    sym (ap (λ u. u && is_right_of c.args.p c.args.q c.args.x c.args.y) (sym (simp to_z-of_z at c.crosses.ensures) ∙ c.if-crosses.false))
