use Rattle.std.proofs.Common.{ap, ◌∙◌}
use Rattle.canvas_line.specs.Lines.{with_front}
use Rattle.canvas_line.proofs.Taking.{takes_at}
use Rattle.canvas_line.proofs.perch.Perch.take_pending_at.Goals as goal

pub returns-clause-taken : goal.returns-clause-taken
returns-clause-taken g c =
    let s = c.args.self.now in
    let m = c.take_pending-taken.new.self in
    takes_at s c.follow.new.self c.args.desk.now m c.take_pending-taken.result c.in_ok-meets.ensures c.take_pending-taken.ensures (c.follow.ensures ∙ ap (with_front s) c.trace.ensures.changes)
