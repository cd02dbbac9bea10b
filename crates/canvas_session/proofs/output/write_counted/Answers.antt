use Rattle.std.proofs.Common.{arith}
use Rattle.canvas_session.proofs.Writes.{wrote_more}
use Rattle.canvas_session.proofs.output.write_counted.Goals as goal

pub loop-at-preserved : goal.loop-at-preserved
loop-at-preserved g c = record {
  within = omega (arith, c.in-Ok.ensures.bound, c.split_at.ensures.back_len);
  wrote = wrote_more _ _ _ c.args.bytes.now c.split_at.result.1.now c.loop-at.at c.in-Ok.n c.split_at.ensures.back c.loop-at.invariant.wrote c.in-Ok.ensures.bytes;
}
