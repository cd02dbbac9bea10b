use Rattle.canvas_session.proofs.Telling.{session_tells}
use Rattle.canvas_session.proofs.law.sessions_tell_one_history.Goals as goal

pub returns : goal.returns
returns c = session_tells
