use Rattle.std.proofs.Common.{◌+◌, ◌-◌, ◌<◌, arith, get_or, length}
use Rattle.std.proofs.lemmas.List.{get_or-replicate}
use Rattle.canvas_paint.proofs.Filling.{filled-more}
use Rattle.canvas_paint.proofs.row.fill_long.Goals as goal

pub loop-at-preserved : goal.loop-at-preserved
loop-at-preserved c = record {
  low = omega arith;
  high = omega arith;
  filled = λ k d lt.
      let inside : k < length c.loop-at.row = omega arith in
      let whole : k < length c.args.row.now = omega arith in
      filled-more c.args.from c.loop-at.at (c.loop-at.at + 16) k _ _ (get_or c.args.row.now k d) c.args.colour _ c.loop-at.invariant.low (omega arith) (c.put.ensures k d inside) (c.loop-at.invariant.filled k d inside)
      (λ low high. get_or-replicate 16 (k - c.loop-at.at) c.args.colour d (omega arith));
}

pub returns : goal.returns
returns c = λ k d lt.
    let inside : k < length c.loop-at.row = omega arith in
    filled-more c.args.from c.loop-at.at c.args.to k _ _ (get_or c.args.row.now k d) c.args.colour _ c.loop-at.invariant.low c.loop-at.invariant.high (c.put-2.ensures k d inside) (c.loop-at.invariant.filled k d inside)
    (λ low high. get_or-replicate 16 (k - c.loop-at.at) c.args.colour d (omega arith))
