use Rattle.canvas_session.proofs.Belonging.{lone-stays}
use Rattle.canvas_session.proofs.law.lone_boards_change_by_accepted_edits_alone.Goals as goal

pub returns : goal.returns
returns c = lone-stays
