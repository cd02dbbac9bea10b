use Rattle.canvas_folder.proofs.Careful.{steps_sound, one_more_sound, all_made}
use Rattle.canvas_folder.proofs.Moments.{serves_by_sound}
use Rattle.canvas_folder.proofs.making.make.Goals as goal

pub returns-in_err-run-clause-any_moment : goal.returns-in_err-run-clause-any_moment
returns-in_err-run-clause-any_moment g c =
    one_more_sound c.loop-step.step-index _ _ _ c.loop-step.invariant c.loop-step-test.true c.in_err-run.ensures.failed

pub returns-in_err-run-clause-serves : goal.returns-in_err-run-clause-serves
returns-in_err-run-clause-serves g c =
    serves_by_sound _ (one_more_sound c.loop-step.step-index _ _ _ c.loop-step.invariant c.loop-step-test.true c.in_err-run.ensures.failed)

pub returns-clause-any_moment : goal.returns-clause-any_moment
returns-clause-any_moment g c = steps_sound c.loop-step.step-index _ c.loop-step.invariant

pub returns-clause-serves : goal.returns-clause-serves
returns-clause-serves g c = serves_by_sound _ (steps_sound c.loop-step.step-index _ c.loop-step.invariant)

pub returns-clause-made : goal.returns-clause-made
returns-clause-made g c = all_made c.loop-step.step-index _ c.loop-step.invariant c.loop-step-test.false
