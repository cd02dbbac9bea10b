use Rattle.std.proofs.Common.{◌≡◌, ap, arith, length}
use Rattle.canvas_list.specs.Chunks.{joined}
use Rattle.canvas_list.proofs.Stretches.{held-few, stretch-same}
use Rattle.canvas_list.proofs.list.SharedList.run_near.Goals as goal

pub run_over-requires-clause-few : goal.run_over-requires-clause-few
run_over-requires-clause-few g c = omega (arith, ap length c.blocks-blocks.ensures.same, c.blocks-blocks.ensures.few)

pub returns-clause-held : goal.returns-clause-held
returns-clause-held g c =
    stretch-same (joined c.blocks-blocks.result.now) c.args.self.now c.run_over.result.items.now (joined c.run_over.result.behind.now) (joined c.run_over.result.beyond.now) c.run_over.result.start c.run_over.result.beyond_start c.blocks-blocks.ensures.same c.run_over.ensures

pub returns-clause-few : goal.returns-clause-few
returns-clause-few g c =
    held-few (joined c.blocks-blocks.result.now) c.run_over.result.items.now (joined c.run_over.result.behind.now) (joined c.run_over.result.beyond.now) c.run_over.result.start c.run_over.result.beyond_start
    (omega (arith, ap length c.blocks-blocks.ensures.same, c.blocks-blocks.ensures.few)) c.run_over.ensures
