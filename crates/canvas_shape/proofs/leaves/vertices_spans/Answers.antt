use Rattle.std.proofs.Common.{◌∙◌, sym, FitsSigned, rules}
use Rattle.std.specs.Int.{w32, w64}
use Rattle.std.proofs.lemmas.Int.{to_z-of_z}
use Rattle.std.proofs.lemmas.Result.{on_err_weaker}
use Rattle.canvas_shape.specs.Edges.{is_in_polygon}
use Rattle.canvas_shape.proofs.Held.{appends-nothing, appends-outside, range-some}
use Rattle.canvas_shape.proofs.LeafRows.{off-polygon}
use Rattle.canvas_shape.proofs.leaves.vertices_spans.Goals as goal

pub returns-else-is_in_rows-clause-ok : goal.returns-else-is_in_rows-clause-ok
returns-else-is_in_rows-clause-ok c =
    let y : FitsSigned w32 c.args.row.y = search rules in
    let t : FitsSigned w64 c.args.vertices.now.bounds.top = search rules in
    let b : FitsSigned w64 c.args.vertices.now.bounds.bottom = search rules in
    let rows = simp to_z-of_z at (sym c.is_in_rows.ensures ∙ c.if-is_in_rows.false) in
    appends-nothing c.args.out.now.items c.args.row.left c.args.row.right (λ x. is_in_polygon c.args.vertices.now.points.now x c.args.row.y) (λ x. off-polygon c.args.vertices.now.points.now c.args.vertices.now.bounds x c.args.row.y c.args.vertices.now.exact rows)

pub returns-then-row-clause-ok : goal.returns-then-row-clause-ok
returns-then-row-clause-ok c =
    let l : FitsSigned w32 c.args.row.left = search rules in
    let r : FitsSigned w32 c.args.row.right = search rules in
    appends-outside c.args.out.now.items c.args.row.left c.args.row.right (λ x. is_in_polygon c.args.vertices.now.points.now x c.args.row.y) l r c.if-row.true

pub returns-then-is_in_rows-clause-want : goal.returns-then-is_in_rows-clause-want
returns-then-is_in_rows-clause-want c =
    let l : FitsSigned w32 c.args.row.left = search rules in
    let r : FitsSigned w32 c.args.row.right = search rules in
    on_err_weaker c.polygon_spans.result (λ e. range-some c.args.row.left c.args.row.right l r c.if-row.false) c.polygon_spans.ensures.err

pub polygon_spans-requires-clause-near : goal.polygon_spans-requires-clause-near
polygon_spans-requires-clause-near c = c.args.vertices.now.near
