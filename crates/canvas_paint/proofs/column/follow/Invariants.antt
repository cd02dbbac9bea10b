use Rattle.canvas_paint.proofs.Following.{IsFollowing}
use Rattle.canvas_paint.proofs.column.follow.Given as goal

abbrev pub invariant-loop-one : goal.invariant-loop-one
invariant-loop-one l = IsFollowing l.base l.y l.end l.one-index l.until l.pixels l.initial.active l.active
