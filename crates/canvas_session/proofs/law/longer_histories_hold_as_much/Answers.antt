use Rattle.canvas_session.proofs.Longer.{longer-belongs}
use Rattle.canvas_session.proofs.law.longer_histories_hold_as_much.Goals as goal

pub returns : goal.returns
returns c = longer-belongs
