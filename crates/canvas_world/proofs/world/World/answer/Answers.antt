use Rattle.std.proofs.Common.{◌∙◌, refl, sym}
use Rattle.canvas_world.proofs.Events.{answered}
use Rattle.canvas_world.proofs.world.World.answer.Goals as goal

pub returns-clause-entry : goal.returns-clause-entry
returns-clause-entry c = λ start past i.
    answered start past c.args.self.now _ c.args.seat c.in-Some.job.now c.version-version.result c.window-window.result c.in-Some-2.raster i (sym c.in-Some.ensures.value)
    c.version-version.ensures c.window-window.ensures (sym c.in-Some-2.is ∙ c.in_ok-raster.ensures) refl refl c.remove.ensures.updates
