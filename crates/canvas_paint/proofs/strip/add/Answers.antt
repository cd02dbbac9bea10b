use Rattle.std.proofs.Common.{arith, ◌<◌, ap, get_or, subst, sym}
use Rattle.canvas_paint.proofs.Columns.{all-added, more-added}
use Rattle.canvas_paint.proofs.strip.add.Goals as goal

pub returns-clause-front : goal.returns-clause-front
returns-clause-front c = all-added c.args.block.now c.loop-k.k c.args.columns.now c.loop-k.columns (omega arith) (omega arith) (omega arith) c.loop-k.invariant

pub loop-k-preserved : goal.loop-k-preserved
loop-k-preserved c =
    let k = c.loop-k.k in
    more-added c.args.block.now k c.args.columns.now c.loop-k.columns (get_or c.loop-k.columns k c.index-columns-k.result) c.add.new.self (subst (λ n. k < n) (sym c.loop-k.auto.columns) c.loop-k-test.true)
    (ap (get_or c.loop-k.columns k) c.index-columns-k.is) c.in_ok-add.ensures.front c.in_ok-add.ensures.new c.loop-k.invariant
