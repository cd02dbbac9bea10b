use Rattle.canvas_shape.proofs.Pairs.{cut-step, cut-done, kept-step, more-step}
use Rattle.canvas_shape.proofs.polygon.push_spans.Goals as goal

pub loop-cut-preserved : goal.loop-cut-preserved
loop-cut-preserved c =
    let old = c.args.out.now.items in
    let out = c.loop-cut.out.items in
    let new = c.push_piece.new.out.items in
    let placed = c.in_ok-push_piece.ensures.ok in
    record {
      placed = cut-step c.args.row.left c.loop-cut.inside c.loop-cut.start c.loop-cut.cut-index 0 c.args.cuts.now out new _ c.loop-cut-test.true placed c.loop-cut.invariant.placed;
      more = more-step old out new _ placed c.loop-cut.invariant.more;
      kept = kept-step old out new _ placed c.loop-cut.invariant.more c.loop-cut.invariant.kept;
      start = c.requires c.loop-cut.cut-index 0 c.loop-cut-test.true;
    }

pub returns-clause-ok : goal.returns-clause-ok
returns-clause-ok c = cut-done c.args.row.left c.loop-cut.inside c.is_odd_size-inside.result _ c.loop-cut.start c.loop-cut.cut-index c.args.cuts.now c.args.out.now.items c.loop-cut.out.items c.loop-cut-test.false c.is_odd_size-inside.ensures c.loop-cut.invariant.placed
