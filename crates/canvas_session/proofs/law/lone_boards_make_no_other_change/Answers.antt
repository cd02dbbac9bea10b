use Rattle.canvas_session.proofs.Longer.{alone-changes}
use Rattle.canvas_session.proofs.law.lone_boards_make_no_other_change.Goals as goal

pub returns : goal.returns
returns c = alone-changes
