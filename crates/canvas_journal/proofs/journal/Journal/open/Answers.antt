use Rattle.canvas_journal.proofs.Runs.{opened_settled, opened_keeps}
use Rattle.canvas_journal.proofs.journal.Journal.open.Goals as goal

pub returns-clause-settled : goal.returns-clause-settled
returns-clause-settled g c =
    opened_settled g.D.Device.seen g.D.Device.may_leave g.D.Device.moment g.D.Device.left_since c.args.device _ c.in_ok-lines.ensures.at_rest c.in_ok-lines.ensures.same c.in_ok-lines.ensures.end c.in_ok-staged.ensures c.in_ok-lines.ensures.durable

pub returns-clause-renewed : goal.returns-clause-renewed
returns-clause-renewed g c = record {
  lines = c.in_ok-lines.ensures.same;
  durable = c.in_ok-lines.ensures.durable;
  meanwhile = c.renew.ensures.any_moment;
}

pub returns-clause-keeps : goal.returns-clause-keeps
returns-clause-keeps g c = λ known counts.
    opened_keeps g.D.Device.seen g.D.Device.may_leave g.D.Device.moment g.D.Device.left_since c.args.device _ known (g.met.D.Device.only_now _) c.in_ok-lines.ensures.same c.in_ok-lines.ensures.durable counts
