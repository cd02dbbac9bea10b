use Rattle.std.proofs.Common.{◌∙◌, refl}
use Rattle.std.proofs.lemmas.Int.{to_z-of_z}
use Rattle.canvas_shape.specs.Edges.{is_odd_along}
use Rattle.canvas_shape.proofs.Pairs.{holds-step, holds-done}
use Rattle.canvas_shape.proofs.polygon.polygon_holds.Goals as goal

pub loop-to-preserved : goal.loop-to-preserved
loop-to-preserved c =
    let x = c.ranges.x in let y = c.ranges.y in
    record {
      counted = simp to_z-of_z (holds-step c.loop-to.inside c.edge_counts-inside.result (is_odd_along c.last-from.result c.args.points.now c.args.x c.args.y) c.loop-to.from _ _ c.args.points.now c.loop-to.to-index c.args.x c.args.y c.loop-to-test.true refl (simp to_z-of_z at c.edge_counts-inside.ensures) (simp to_z-of_z at c.loop-to.invariant.counted));
      near = c.requires.near c.loop-to.to-index _ c.loop-to-test.true;
    }

pub returns : goal.returns
returns c =
    let x = c.ranges.x in let y = c.ranges.y in
    holds-done c.loop-to.inside (is_odd_along c.last-from.result c.args.points.now c.args.x c.args.y) c.loop-to.from c.args.points.now c.loop-to.to-index c.args.x c.args.y c.loop-to-test.false (simp to_z-of_z at c.loop-to.invariant.counted) ∙ c.last-from.ensures.value c.args.x c.args.y
