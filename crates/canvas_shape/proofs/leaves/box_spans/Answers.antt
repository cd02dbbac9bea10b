use Rattle.std.proofs.Common.{◌∙◌, ap, sym, FitsSigned, rules, ◌&&◌}
use Rattle.std.specs.Int.{w64}
use Rattle.std.proofs.lemmas.Int.{to_z-of_z}
use Rattle.std.proofs.lemmas.Result.{on_ok_weaker}
use Rattle.canvas_plane.specs.Page.{is_in}
use Rattle.canvas_shape.specs.Spans.{is_from_to, within}
use Rattle.canvas_shape.proofs.Held.{AppendsSpans-same, appends-nothing}
use Rattle.canvas_shape.specs.Leaves.{sides_of}
use Rattle.canvas_shape.proofs.LeafRows.{in-box, off-box}
use Rattle.canvas_shape.proofs.leaves.box_spans.Goals as goal

pub returns-then-is_in_rows-clause-ok : goal.returns-then-is_in_rows-clause-ok
returns-then-is_in_rows-clause-ok c =
    let y = c.ranges.y in let l = c.ranges.left in let r = c.ranges.right in
    let sl : FitsSigned w64 c.args.shape.now.left = search rules in
    let sr : FitsSigned w64 c.args.shape.now.right = search rules in
    let st : FitsSigned w64 c.args.shape.now.top = search rules in
    let sb : FitsSigned w64 c.args.shape.now.bottom = search rules in
    let rows = simp to_z-of_z at (sym c.is_in_rows.ensures ∙ c.if-is_in_rows.true) in
    on_ok_weaker c.append_cut.result
    (AppendsSpans-same c.args.out.now.items c.append_cut.new.out.items (within c.args.left c.args.right (λ x. is_from_to c.args.shape.now.left x c.args.shape.now.right)) (within c.args.left c.args.right (λ x. is_in (sides_of c.args.shape.now) x c.args.y)) (λ x. ap (λ t. is_from_to c.args.left x c.args.right && t) (in-box (sides_of c.args.shape.now) x c.args.y rows)))
    (simp to_z-of_z at c.append_cut.ensures.ok)

pub returns-else-is_in_rows-clause-ok : goal.returns-else-is_in_rows-clause-ok
returns-else-is_in_rows-clause-ok c =
    let y = c.ranges.y in
    let st : FitsSigned w64 c.args.shape.now.top = search rules in
    let sb : FitsSigned w64 c.args.shape.now.bottom = search rules in
    let rows = simp to_z-of_z at (sym c.is_in_rows.ensures ∙ c.if-is_in_rows.false) in
    appends-nothing c.args.out.now.items c.args.left c.args.right (λ x. is_in (sides_of c.args.shape.now) x c.args.y) (λ x. off-box (sides_of c.args.shape.now) x c.args.y rows)

pub returns-then-is_in_rows-clause-want : goal.returns-then-is_in_rows-clause-want
returns-then-is_in_rows-clause-want c =
    let l = c.ranges.left in let r = c.ranges.right in
    simp to_z-of_z at c.append_cut.ensures.want
