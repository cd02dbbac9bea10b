use Rattle.std.proofs.Common.{ap, ◌&&◌, FitsSigned, rules}
use Rattle.std.specs.Int.{w64}
use Rattle.std.proofs.lemmas.Int.{to_z-of_z}
use Rattle.std.proofs.lemmas.Result.{on_ok_weaker}
use Rattle.canvas_shape.proofs.Held.{AppendsSpans-same}
use Rattle.canvas_shape.specs.Spans.{is_from_to, within}
use Rattle.canvas_shape.specs.Ellipse.{is_in_ellipse}
use Rattle.canvas_shape.proofs.ellipse.ellipse_spans.Goals as goal

pub returns-clause-ok : goal.returns-clause-ok
returns-clause-ok c =
    let y = c.ranges.y in let l = c.ranges.left in let r = c.ranges.right in
    let from : FitsSigned w64 c.row_ends-ends.result.from = search rules in
    let to : FitsSigned w64 c.row_ends-ends.result.to = search rules in
    let same = simp to_z-of_z at c.row_ends-ends.ensures in
    on_ok_weaker c.append_cut.result
    (AppendsSpans-same c.args.out.now.items c.append_cut.new.out.items (within c.args.left c.args.right (λ x. is_from_to c.row_ends-ends.result.from x c.row_ends-ends.result.to)) (within c.args.left c.args.right (λ x. is_in_ellipse c.args.shape.now x c.args.y)) (λ x. ap (λ t. is_from_to c.args.left x c.args.right && t) (same x)))
    (simp to_z-of_z at c.append_cut.ensures.ok)

pub returns-clause-want : goal.returns-clause-want
returns-clause-want c = let l = c.ranges.left in let r = c.ranges.right in simp to_z-of_z at c.append_cut.ensures.want
