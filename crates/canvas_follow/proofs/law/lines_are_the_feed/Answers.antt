use Rattle.canvas_follow.proofs.Following.{fed_by}
use Rattle.canvas_follow.proofs.law.lines_are_the_feed.Goals as goal

pub returns : goal.returns
returns c = λ s t lines f. fed_by s t lines f
