use Rattle.std.proofs.Common.{◌≡◌, ◌∙◌, [], Some, ap, refl, subst}
use Rattle.std.specs.Ordering.{nat_cmp}
use Rattle.std.specs.BTreeMap.{Updates}
use Rattle.canvas_record.specs.Contents.{Contents}
use Rattle.canvas_world.specs.Pieces.{Work}
use Rattle.canvas_world.proofs.Events.{looked}
use Rattle.canvas_world.proofs.world.World.look.Goals as goal

pub returns-clause-entry : goal.returns-clause-entry
returns-clause-entry c = λ start past i.
    let old = c.args.self.now in
    let made : Contents → Work = λ d. record { version = old.version; window = c.args.window.now; document = d; cuts = [] } in
    let job : c.new-job.result ≡ made old.document.value = c.new-job.ensures ∙ ap made c.in_ok-document.ensures.cases in
    looked start past old _ c.args.seat c.args.window.now i refl refl (subst (λ (j : Work). Updates nat_cmp old.jobs c.insert.new.self c.args.seat (Some j)) job c.in_ok-insert.ensures.updates)
