use Rattle.canvas_session.proofs.Telling.{all_belong}
use Rattle.canvas_session.proofs.law.all_sessions_tell_one_history.Goals as goal

pub returns : goal.returns
returns c = all_belong
