use Rattle.std.proofs.Common.{◌∙◌, ap, sym}
use Rattle.canvas_plane.specs.Page.{is_in}
use Rattle.canvas_shape.specs.Ellipse.{is_in_ellipse}
use Rattle.canvas_shape.specs.Leaves.{carried_holds}
use Rattle.canvas_shape.proofs.LeafRows.{ellipse-held, polygon-held}
use Rattle.canvas_shape.proofs.Carried.page_box.Goals as goal

pub returns-in-Rect-clause-has_all : goal.returns-in-Rect-clause-has_all
returns-in-Rect-clause-has_all c = λ x y h. ap (λ b. is_in b x y) c.sides.ensures.value ∙ ap (λ k. carried_holds k x y) (sym c.in-Rect.is) ∙ h

pub returns-in-Ellipse-clause-has_all : goal.returns-in-Ellipse-clause-has_all
returns-in-Ellipse-clause-has_all c = λ x y h.
    ellipse-held c.sides-in-Ellipse.result x y c.sides-in-Ellipse.ensures.across c.sides-in-Ellipse.ensures.down (ap (λ b. is_in_ellipse b x y) c.sides-in-Ellipse.ensures.value ∙ ap (λ k. carried_holds k x y) (sym c.in-Ellipse.is) ∙ h)

pub returns-in-Polygon-clause-has_all : goal.returns-in-Polygon-clause-has_all
returns-in-Polygon-clause-has_all c = λ x y h.
    polygon-held c.in-Polygon.vertices.points.now c.in-Polygon.vertices.bounds x y c.in-Polygon.vertices.exact (ap (λ k. carried_holds k x y) (sym c.in-Polygon.is) ∙ h)
