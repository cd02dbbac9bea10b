use Rattle.std.proofs.Common.{◌∙◌, ap, map, subst, sym}
use Rattle.canvas_plane.specs.Motion.{carry}
use Rattle.canvas_shape.specs.Box.{AreSides}
use Rattle.canvas_shape.specs.Edges.{is_in_polygon}
use Rattle.canvas_shape.specs.Inside.{holds_of, IsSound}
use Rattle.canvas_shape.specs.declared.Kind.{Kind}
use Rattle.canvas_doc.proofs.boxes.BoundsLaws.{polygon-held, sized-held}
use Rattle.canvas_doc.proofs.extents.Shown.{ellipse-between}
use Rattle.canvas_doc.proofs.bounds.Bounds.of_kind.Goals as goal

pub returns-in-Ellipse : goal.returns-in-Ellipse
returns-in-Ellipse c =
    let P : Kind → Type 0 = λ k. IsSound k in
    let sides : AreSides c.in-Ellipse.w c.in-Ellipse.h = subst P c.in-Ellipse.is c.requires in
    sized-held c.args.kind.now c.in-Ellipse.w c.in-Ellipse.h c.sized-in-Ellipse.result
    (λ out x y quarter held. ellipse-between out c.in-Ellipse.w c.in-Ellipse.h x y quarter sides (ap (λ k. holds_of k (carry out) x y) (sym c.in-Ellipse.is) ∙ held))
    (record { first = c.sized-in-Ellipse.ensures.first; last = c.sized-in-Ellipse.ensures.last })

pub returns-in-Polygon : goal.returns-in-Polygon
returns-in-Polygon c =
    polygon-held c.args.kind.now c.as_slice.result.now c.bounds-sides.result c.left_top.result c.right_bottom.result c.between.result
    (λ out x y. ap (λ k. holds_of k (carry out) x y) c.in-Polygon.is ∙ ap (λ l. is_in_polygon (map (carry out) l) x y) (sym c.as_slice.ensures))
    c.bounds-sides.ensures.value c.left_top.ensures c.right_bottom.ensures c.between.ensures
