use Rattle.canvas_session.proofs.Lf.{none_after, found_after}
use Rattle.canvas_session.proofs.next.find_lf.Goals as goal

pub returns-in-None-clause-none : goal.returns-in-None-clause-none
returns-in-None-clause-none c = none_after c.args.bytes.now c.split_at.result.1.now c.args.seen c.split_at.ensures.back c.requires.within c.requires.before c.in-None.ensures.none

pub returns-in-Some-clause-found : goal.returns-in-Some-clause-found
returns-in-Some-clause-found c = found_after c.args.bytes.now c.split_at.result.1.now c.args.seen c.in-Some.at c.split_at.ensures.back c.requires.within c.requires.before c.in-Some.ensures.found
