use Rattle.std.proofs.Common.{arith}
use Rattle.canvas_list.proofs.list.SharedList.reader.Goals as goal

pub invariant_of-result : goal.invariant_of-result
invariant_of-result g c = (
  omega (arith, c.len.ensures.len, c.len.ensures.few),
  c.nothing.ensures.held c.args.self.now (omega (arith, c.len.ensures.len)),
)
