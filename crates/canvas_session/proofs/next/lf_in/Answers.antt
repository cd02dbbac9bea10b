use Rattle.canvas_session.proofs.Lf.{lf_found, lf_none}
use Rattle.canvas_session.proofs.next.lf_in.Goals as goal

pub returns-clause-found : goal.returns-clause-found
returns-clause-found c = lf_found c.args.bytes.now c.memchr.result c.memchr.ensures

pub returns-clause-none : goal.returns-clause-none
returns-clause-none c = lf_none c.args.bytes.now c.memchr.result c.memchr.ensures
