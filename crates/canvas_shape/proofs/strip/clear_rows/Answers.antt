use Rattle.std.proofs.Common.{◌<◌, length, arith}
use Rattle.canvas_shape.proofs.Strips.{cleared-step}
use Rattle.canvas_shape.proofs.strip.clear_rows.Goals as goal

pub loop-k-preserved : goal.loop-k-preserved
loop-k-preserved c =
    let lt : c.loop-k.k < length c.loop-k.rows = omega arith in
    cleared-step c.loop-k.rows c.none.result c.loop-k.k lt c.none.ensures c.loop-k.invariant
