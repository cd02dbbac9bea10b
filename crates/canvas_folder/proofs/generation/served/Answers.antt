use Rattle.canvas_folder.proofs.Highest.{served_more}
use Rattle.canvas_folder.proofs.generation.served.Goals as goal

pub loop-generation-preserved : goal.loop-generation-preserved
loop-generation-preserved c =
    served_more c.args.generations.now c.loop-generation.generation-index _ c.loop-generation.highest c.later-highest.result c.loop-generation-test.true c.loop-generation.invariant c.later-highest.ensures
