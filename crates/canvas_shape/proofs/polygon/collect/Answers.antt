use Rattle.std.proofs.Common.{◌∙◌, refl}
use Rattle.canvas_shape.specs.Edges.{is_odd_along}
use Rattle.canvas_shape.proofs.Pairs.{edges-step, edges-done}
use Rattle.canvas_shape.proofs.polygon.collect.Goals as goal

pub loop-to-preserved : goal.loop-to-preserved
loop-to-preserved c = record {
  counted = edges-step c.args.row.left c.args.row.right c.args.row.y c.loop-to.cuts.items c.add_cut.new.cuts.items c.loop-to.from _ _ c.args.points.now c.loop-to.to-index (λ x. is_odd_along c.last-from.result c.args.points.now x c.args.row.y) c.loop-to-test.true refl c.in_ok-add_cut.ensures c.loop-to.invariant.counted;
  inside = c.in_ok-add_cut.ensures.inside c.loop-to.invariant.inside;
  near = c.requires.near c.loop-to.to-index _ c.loop-to-test.true;
}

pub returns : goal.returns
returns c = record {
  exact = λ x l r. edges-done c.args.row.left c.args.row.y x c.loop-to.cuts.items c.loop-to.from c.args.points.now c.loop-to.to-index (is_odd_along c.last-from.result c.args.points.now x c.args.row.y) c.loop-to-test.false (c.loop-to.invariant.counted x l r) ∙ c.last-from.ensures.value x c.args.row.y;
  inside = c.loop-to.invariant.inside;
}
