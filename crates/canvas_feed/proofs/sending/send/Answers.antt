use Rattle.std.proofs.Common.{arith}
use Rattle.canvas_feed.specs.Feed.{whole_feed}
use Rattle.canvas_feed.proofs.Feeds.{lines_begun, lines_sent}
use Rattle.canvas_feed.proofs.Sent.{sent_then_more, sent_then_part}
use Rattle.canvas_feed.proofs.sending.send.Goals as goal

pub loop-at-preserved : goal.loop-at-preserved
loop-at-preserved g c = record {
  behind = omega arith;
  within = c.in-Ok.ensures.within;
  sent = λ bytes known. sent_then_more _ _ _ bytes c.args.from c.loop-at.at c.in-Ok.count c.loop-at.invariant.behind (c.loop-at.invariant.sent bytes known) (c.in-Ok.ensures.sent bytes known);
}

pub returns-in-Err-clause-sent : goal.returns-in-Err-clause-sent
returns-in-Err-clause-sent g c = λ bytes known.
    sent_then_part _ _ _ bytes c.args.from c.loop-at.at c.args.to c.loop-at.invariant.behind c.loop-at.invariant.within (c.loop-at.invariant.sent bytes known) (c.in-Err.ensures.sent bytes known)

pub returns-in-Err-clause-lines : goal.returns-in-Err-clause-lines
returns-in-Err-clause-lines g c = λ generation d lines n m known less within begins ends.
    lines_begun _ _ generation d lines n m c.args.from c.args.to less within begins ends (returns-in-Err-clause-sent g c (whole_feed generation d lines) known)

pub returns-clause-lines : goal.returns-clause-lines
returns-clause-lines g c = λ generation d lines n m known less within begins ends.
    lines_sent _ _ generation d lines n m c.args.from c.loop-at.at c.args.to c.loop-at.invariant.within c.loop-at-test.false less within begins ends (c.loop-at.invariant.sent (whole_feed generation d lines) known)
