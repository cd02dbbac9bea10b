use Rattle.canvas_list.proofs.Parted.{point-ends}
use Rattle.canvas_list.proofs.reader.Run.passed.Goals as goal

pub returns-else-is_end-clause-end : goal.returns-else-is_end-clause-end
returns-else-is_end-clause-end g c = λ p by parted. point-ends p c.args.self.now.items.now c.count_passed.result (c.count_passed.ensures.partitioned p by parted) c.count_passed.ensures.bound
