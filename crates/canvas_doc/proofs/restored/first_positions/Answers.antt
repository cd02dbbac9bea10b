use Rattle.std.proofs.Common.{arith}
use Rattle.std.proofs.lemmas.Grind.{common_steps}
use Rattle.canvas_doc.proofs.restoring.Leads.{position_of-nil, position_of-more}
use Rattle.canvas_doc.proofs.restored.first_positions.Goals as goal

pub loop-position-init : goal.loop-position-init
loop-position-init c = λ id. grind (arith, common_steps, position_of-nil)

pub loop-position-preserved : goal.loop-position-preserved
loop-position-preserved c = λ id.
    let more = position_of-more id c.args.records.now c.loop-position.position c.index-records-position.result c.loop-position-test.true in
    grind (arith, common_steps, more, c.loop-position.invariant id)
