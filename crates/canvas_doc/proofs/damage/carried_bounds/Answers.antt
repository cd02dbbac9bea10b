use Rattle.std.proofs.Common.{pos}
use Rattle.canvas_plane.specs.declared.Point.{Point}
use Rattle.canvas_plane.specs.Motion.{carry}
use Rattle.canvas_doc.proofs.extents.Extents.{grown-carried}
use Rattle.canvas_doc.proofs.damage.carried_bounds.Goals as goal

pub loop-point-preserved : goal.loop-point-preserved
loop-point-preserved c =
    let blank : Point = record { x = pos 0; y = pos 0 } in
    grown-carried (carry c.args.page.now) c.loop-point.bounds c.grown-bounds.result _ c.args.points.now c.loop-point.point-index blank _ c.loop-point-test.true c.apply-in-loop-point.ensures.value c.grown-bounds.ensures c.loop-point.invariant
