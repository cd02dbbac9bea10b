use Rattle.std.proofs.Common.{◌≡◌, ◌∙◌, ap, refl}
use Rattle.canvas_plane.specs.Page.{is_in}
use Rattle.canvas_shape.specs.Bounds.{grown_along, bounds_of}
use Rattle.canvas_shape.proofs.Law.{grow-done, from-first, held-in, bounds-have, grow-step}
use Rattle.canvas_shape.proofs.polygon.bounds.Goals as goal

pub returns-clause-has_all : goal.returns-clause-has_all
returns-clause-has_all c = λ x y h.
    let v : c.loop-point.bounds ≡ bounds_of c.args.points.now = grow-done c.loop-point.bounds c.args.points.now c.loop-point.point-index _ c.loop-point-test.false c.loop-point.invariant ∙ ap (λ b. grown_along b c.args.points.now) c.dot-bounds.ensures ∙ from-first c.args.points.now _ c.requires in
    ap (λ b. is_in b x y) v ∙ held-in (bounds_of c.args.points.now) c.args.points.now x y (bounds-have c.args.points.now) h

pub loop-point-preserved : goal.loop-point-preserved
loop-point-preserved c = grow-step c.loop-point.bounds c.grown-bounds.result _ _ c.args.points.now c.loop-point.point-index _ c.loop-point-test.true refl c.grown-bounds.ensures c.loop-point.invariant
