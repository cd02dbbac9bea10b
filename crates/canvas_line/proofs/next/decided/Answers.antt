use Rattle.canvas_record.proofs.NeverMemory.{decision-change}
use Rattle.canvas_line.proofs.next.decided.Goals as goal

pub returns-in-Err-OutOfMemory : goal.returns-in-Err-OutOfMemory
returns-in-Err-OutOfMemory c = decision-change c.args.edit.now c.args.document.now c.decide.result (cc) c.decide.ensures.decision
