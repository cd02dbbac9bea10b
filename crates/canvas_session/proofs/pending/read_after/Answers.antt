use Rattle.std.proofs.Common.{[], take, drop, sym, ◌∙◌, append-nil}
use Rattle.std.proofs.KnownBytes.{Consumes-nil, Consumes-kept}
use Rattle.canvas_session.proofs.Ranges.{range_more, range_same}
use Rattle.canvas_session.proofs.pending.read_after.Goals as goal

pub returns-in-Ok-clause-takes : goal.returns-in-Ok-clause-takes
returns-in-Ok-clause-takes g c = (
  take c.in-Ok.n (drop c.args.end c.read_at.new.bytes.items),
  c.in-Ok.ensures.ok,
  range_more c.args.bytes.now.items c.read_at.new.bytes.items c.args.start c.args.end c.in-Ok.n c.requires.in_order c.in-Ok.ensures.front,
)

pub returns-in-Err-clause-takes : goal.returns-in-Err-clause-takes
returns-in-Err-clause-takes g c = (
  [],
  Consumes-kept _ _ _ [] (Consumes-nil _) c.in-Err.ensures.err,
  range_same c.args.bytes.now.items c.read_at.new.bytes.items c.args.start c.args.end c.requires.in_order c.in-Err.ensures.front ∙ sym (append-nil _),
)
