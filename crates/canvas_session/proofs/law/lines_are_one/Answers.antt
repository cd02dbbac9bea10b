use Rattle.canvas_session.proofs.LinesOf.{lines_of-ended}
use Rattle.canvas_session.proofs.law.lines_are_one.Goals as goal

pub returns : goal.returns
returns c = lines_of-ended
