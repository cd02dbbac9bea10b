use Rattle.std.proofs.Common.{◌∙◌, ap}
use Rattle.canvas_record.specs.Contents.{Contents}
use Rattle.canvas_world.specs.Pieces.{strip_of}
use Rattle.canvas_world.proofs.Strips.{painted-more}
use Rattle.canvas_world.proofs.job.Job.paint.Goals as goal

pub invariant_of-self-2 : goal.invariant_of-self-2
invariant_of-self-2 c =
    painted-more c.self.inside.document.value c.self.inside.window c.self.inside.pieces.items c.push.new.self.items c.args.cut c.in_ok-rows.rows c.self.invariant c.requires
    (c.in_ok-rows.ensures ∙ ap (λ (d : Contents). strip_of d c.self.inside.window c.args.cut) c.deref.ensures) c.in_ok-push.ensures.items
