use Rattle.std.proofs.Common.{◌∙◌, ◌+◌, ap, sym}
use Rattle.canvas_paint.proofs.Filling.{row-held-more}
use Rattle.canvas_paint.proofs.leaf.held_rows.Goals as goal

pub loop-row-preserved : goal.loop-row-preserved
loop-row-preserved c = record {
  count = c.in_ok-push.ensures.len ∙ ap (λ n. n + 1) c.loop-row.invariant.count;
  held = row-held-more c.loop-row.words.items c.push.new.self.items c.held.result c.args.rows.now _ c.loop-row.row-index (sym c.loop-row.words.ok.0 ∙ c.loop-row.invariant.count) c.loop-row-test.true c.in_ok-push.ensures.items c.held.ensures c.loop-row.invariant.held;
}
