use Rattle.std.proofs.Common.{◌∙◌, ap, sym, FitsSigned, rules, ◌&&◌}
use Rattle.std.specs.Int.{w32}
use Rattle.std.proofs.lemmas.Int.{to_z-of_z}
use Rattle.canvas_shape.specs.Edges.{is_right_of, counts}
use Rattle.canvas_shape.proofs.Pairs.{adds-cut, adds-none}
use Rattle.canvas_shape.proofs.polygon.add_cut.Goals as goal

pub returns-in_ok-push : goal.returns-in_ok-push
returns-in_ok-push c =
    adds-cut c.args.row.left c.args.row.right c.args.cuts.now.items c.push.new.self.items c.edge_cut.result (λ x. counts c.args.from c.args.to x c.args.row.y) c.in_ok-push.ensures.items c.edge_cut.ensures.value c.edge_cut.ensures.bound

pub returns-else-crosses : goal.returns-else-crosses
returns-else-crosses c =
    let y : FitsSigned w32 c.args.row.y = search rules in
    adds-none c.args.row.left c.args.row.right c.args.cuts.now.items (λ x. counts c.args.from c.args.to x c.args.row.y) (λ x. ap (λ u. u && is_right_of c.args.from c.args.to x c.args.row.y) (sym (simp to_z-of_z at c.crosses.ensures) ∙ c.if-crosses.false))
