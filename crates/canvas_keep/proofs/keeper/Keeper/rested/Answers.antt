use Rattle.std.proofs.Common.{rules}
use Rattle.canvas_keep.proofs.Stands.{goes_on_both}
use Rattle.canvas_keep.proofs.keeper.Keeper.rested.Goals as goal

pub loop-preserved : goal.loop-preserved
loop-preserved g c = (
  search rules,
  search rules,
  goes_on_both c.args.self.line c.loop.keeper.line c.in_ok-keeper-2.keeper.line c.loop.invariant.2 c.in_ok-keeper-2.ensures.goes_on,
)
