use Rattle.std.proofs.Common.{◌∙◌, ap, sym}
use Rattle.std.proofs.lemmas.Int.{to_z-of_z}
use Rattle.std.proofs.lemmas.Result.{on_ok_weaker}
use Rattle.canvas_plane.specs.Page.{is_in}
use Rattle.canvas_shape.specs.Ellipse.{is_in_ellipse}
use Rattle.canvas_shape.specs.Edges.{is_in_polygon}
use Rattle.canvas_shape.specs.Leaves.{sides_of, carried_holds}
use Rattle.canvas_shape.proofs.LeafRows.{of-leaf}
use Rattle.canvas_shape.proofs.Carried.row_spans_with.Goals as goal

pub returns-in-Rect-clause-ok : goal.returns-in-Rect-clause-ok
returns-in-Rect-clause-ok c =
    let y = c.ranges.y in let l = c.ranges.left in let r = c.ranges.right in
    on_ok_weaker c.box_spans.result
    (of-leaf c.args.out.now.items c.box_spans.new.out.items c.args.left c.args.right c.args.y c.args.self.now (λ x. is_in (sides_of c.in-Rect.shape) x c.args.y) (λ x. ap (λ k. carried_holds k x c.args.y) (sym c.in-Rect.is)))
    (simp to_z-of_z at c.box_spans.ensures.ok)

pub returns-in-Ellipse-clause-ok : goal.returns-in-Ellipse-clause-ok
returns-in-Ellipse-clause-ok c =
    let y = c.ranges.y in let l = c.ranges.left in let r = c.ranges.right in
    on_ok_weaker c.ellipse_spans.result
    (of-leaf c.args.out.now.items c.ellipse_spans.new.out.items c.args.left c.args.right c.args.y c.args.self.now (λ x. is_in_ellipse c.sides.result x c.args.y) (λ x. ap (λ b. is_in_ellipse b x c.args.y) c.sides.ensures.value ∙ ap (λ k. carried_holds k x c.args.y) (sym c.in-Ellipse.is)))
    (simp to_z-of_z at c.ellipse_spans.ensures.ok)

pub returns-in-Polygon-clause-ok : goal.returns-in-Polygon-clause-ok
returns-in-Polygon-clause-ok c =
    let y = c.ranges.y in let l = c.ranges.left in let r = c.ranges.right in
    on_ok_weaker c.vertices_spans.result
    (of-leaf c.args.out.now.items c.vertices_spans.new.out.items c.args.left c.args.right c.args.y c.args.self.now (λ x. is_in_polygon c.in-Polygon.vertices.points.now x c.args.y) (λ x. ap (λ k. carried_holds k x c.args.y) (sym c.in-Polygon.is)))
    (simp to_z-of_z at c.vertices_spans.ensures.ok)

pub returns-in-Rect-clause-want : goal.returns-in-Rect-clause-want
returns-in-Rect-clause-want c =
    let l = c.ranges.left in let r = c.ranges.right in
    simp to_z-of_z at c.box_spans.ensures.want

pub returns-in-Ellipse-clause-want : goal.returns-in-Ellipse-clause-want
returns-in-Ellipse-clause-want c =
    let l = c.ranges.left in let r = c.ranges.right in
    simp to_z-of_z at c.ellipse_spans.ensures.want

pub returns-in-Polygon-clause-want : goal.returns-in-Polygon-clause-want
returns-in-Polygon-clause-want c =
    let l = c.ranges.left in let r = c.ranges.right in
    simp to_z-of_z at c.vertices_spans.ensures.want
