use Rattle.std.proofs.Common.{◌≡◌, ◌<◌, arith, subst}
use Rattle.canvas_paint.specs.Words.{IsLowest}
use Rattle.canvas_paint.proofs.Bits.{none-from, run-is}
use Rattle.canvas_paint.proofs.word.next_run.Goals as goal

pub returns-then-from-eq-PIXELS : goal.returns-then-from-eq-PIXELS
returns-then-from-eq-PIXELS c =
    let e : c.lowest-from.result ≡ 64 = omega arith in
    none-from c.args.word c.both.result c.between.result c.args.at c.between.ensures c.both.ensures (subst (λ n. IsLowest c.both.result n) e c.lowest-from.ensures)

pub returns : goal.returns
returns c =
    let lt : c.lowest-from.result < 64 = omega (arith, c.lowest-from.ensures.within) in
    run-is c.args.word c.both.result c.between.result c.without.result c.between-2.result c.args.at c.lowest-from.result c.lowest-to.result c.between.ensures c.both.ensures c.lowest-from.ensures lt c.between-2.ensures c.without.ensures c.lowest-to.ensures
