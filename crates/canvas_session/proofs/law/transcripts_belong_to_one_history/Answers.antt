use Rattle.canvas_session.proofs.Belonging.{belongs}
use Rattle.canvas_session.proofs.law.transcripts_belong_to_one_history.Goals as goal

pub returns : goal.returns
returns c = belongs
