use Rattle.canvas_record.proofs.NeverMemory.{decision-change}
use Rattle.canvas_board.proofs.alone.make.Goals as goal

pub returns-in-Err-OutOfMemory-clause-change : goal.returns-in-Err-OutOfMemory-clause-change
returns-in-Err-OutOfMemory-clause-change c = decision-change c.args.edit.now c.args.document.now c.edit.result (cc) c.edit.ensures.decision
