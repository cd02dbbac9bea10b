use Rattle.std.proofs.Common.{arith, ap, ◌∙◌}
use Rattle.canvas_paint.specs.Columns.{shown_in}
use Rattle.canvas_paint.proofs.Columns.{column-painted, live-more, row-fresh, same-blocks}
use Rattle.canvas_paint.proofs.strip.refresh.Goals as goal

pub loop-k-preserved : goal.loop-k-preserved
loop-k-preserved c = record {
  kept = column-painted c.loop-k.row c.refresh.new.row c.loop-k.columns c.refresh.new.self c.args.y c.loop-k.k (omega arith) (omega arith) (omega arith) c.in_ok-refresh.ensures.outside c.in_ok-refresh.ensures.kept c.loop-k.invariant.kept;
  blocks = same-blocks c.loop-k.columns c.args.columns.now c.index-columns-k.result c.refresh.new.self c.loop-k.k c.in_ok-refresh.ensures.blocks c.loop-k.invariant.blocks;
  live = live-more c.loop-k.columns c.refresh.new.self c.args.y c.loop-k.k (omega arith) c.in_ok-refresh.ensures.live c.loop-k.invariant.live;
}

pub returns-clause-fresh : goal.returns-clause-fresh
returns-clause-fresh c = λ x d lt.
    row-fresh c.loop-k.row c.loop-k.columns c.args.y c.loop-k.k (omega arith) (omega arith) (omega arith) c.loop-k.invariant.kept c.loop-k.invariant.live x d (omega arith)
    ∙ ap (λ lists. shown_in lists x c.args.y) c.loop-k.invariant.blocks
