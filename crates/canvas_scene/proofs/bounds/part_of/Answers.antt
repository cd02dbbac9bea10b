use Rattle.std.proofs.Common.{◌∙◌, Some, ap, map, sym}
use Rattle.canvas_plane.specs.Motion.{carry}
use Rattle.canvas_plane.specs.Page.{is_in, meet_of}
use Rattle.canvas_shape.specs.Edges.{is_in_polygon}
use Rattle.canvas_shape.specs.Leaves.{carried_holds}
use Rattle.canvas_record.specs.Picture.{or_else}
use Rattle.canvas_scene.specs.Nodes.{seen, shown_of}
use Rattle.canvas_scene.specs.Trees.{clip_of}
use Rattle.canvas_scene.proofs.Covering.{cut-by-box, swapped}
use Rattle.canvas_scene.proofs.bounds.part_of.Goals as goal

pub returns-in-Frame-clause-seen : goal.returns-in-Frame-clause-seen
returns-in-Frame-clause-seen c = λ inner x y.
    let o = or_else inner c.in-Frame.fill in
    cut-by-box (carried_holds c.rect.result) c.page_box.result c.args.clip.now c.meet.result (shown_of c.args.kind.now c.args.page.now inner x y) o x y c.page_box.ensures.has_all (λ x y. c.meet.ensures.exact x y ∙ swapped (is_in c.args.clip.now x y) (is_in c.page_box.result x y))
    (ap (λ k. shown_of k c.args.page.now inner x y) c.in-Frame.is ∙ ap (λ b. seen b o) (sym (c.rect.ensures.pixels x y)))

pub returns-in-Rect-clause-seen : goal.returns-in-Rect-clause-seen
returns-in-Rect-clause-seen c = λ inner x y.
    cut-by-box (carried_holds c.rect-in-Rect.result) c.page_box-in-Rect.result c.args.clip.now c.meet-in-Rect.result (shown_of c.args.kind.now c.args.page.now inner x y) (Some c.in-Rect.fill) x y c.page_box-in-Rect.ensures.has_all c.meet-in-Rect.ensures.exact
    (ap (λ k. shown_of k c.args.page.now inner x y) c.in-Rect.is ∙ ap (λ b. seen b (Some c.in-Rect.fill)) (sym (c.rect-in-Rect.ensures.pixels x y)))

pub returns-in-Ellipse-clause-seen : goal.returns-in-Ellipse-clause-seen
returns-in-Ellipse-clause-seen c = λ inner x y.
    cut-by-box (carried_holds c.ellipse.result) c.page_box-in-Ellipse.result c.args.clip.now c.meet-in-Ellipse.result (shown_of c.args.kind.now c.args.page.now inner x y) (Some c.in-Ellipse.fill) x y c.page_box-in-Ellipse.ensures.has_all c.meet-in-Ellipse.ensures.exact
    (ap (λ k. shown_of k c.args.page.now inner x y) c.in-Ellipse.is ∙ ap (λ b. seen b (Some c.in-Ellipse.fill)) (sym (c.ellipse.ensures.pixels x y)))

pub returns-in-Polygon-clause-seen : goal.returns-in-Polygon-clause-seen
returns-in-Polygon-clause-seen c = λ inner x y.
    cut-by-box (is_in_polygon (map (carry c.args.page.now) c.as_slice.result.now)) c.carried_bounds.result c.args.clip.now c.meet-in-Polygon.result (shown_of c.args.kind.now c.args.page.now inner x y) (Some c.in-Polygon.fill) x y c.carried_bounds.ensures c.meet-in-Polygon.ensures.exact
    (ap (λ k. shown_of k c.args.page.now inner x y) c.in-Polygon.is ∙ ap (λ l. seen (is_in_polygon (map (carry c.args.page.now) l) x y) (Some c.in-Polygon.fill)) (sym c.as_slice.ensures))

pub returns-in-Frame-clause-clip : goal.returns-in-Frame-clause-clip
returns-in-Frame-clause-clip c = λ h.
    c.meet.ensures.value ∙ ap (meet_of c.args.clip.now) (c.page_box.ensures.value ∙ c.rect.ensures.sides) ∙ sym (ap (λ k. clip_of k (carry c.args.page.now) c.args.clip.now) c.in-Frame.is)
