use Rattle.std.proofs.Common.{◌≡◌, ◌≤◌, Bool, length, true, false}
use Rattle.std.specs.Fn.{ComputesKey}
use Rattle.std.specs.List.Sorted.{IsPartitionPoint, IsPartitionedBy}
use Rattle.canvas_list.specs.Chunks.{IsEnd}
use Rattle.canvas_list.proofs.Parted.{if-both, point-is}
use Rattle.canvas_list.proofs.Runs.{parted-run}
use Rattle.canvas_list.proofs.list.SharedList.found_in.Goals as goal

pub returns-clause-partitioned : goal.returns-clause-partitioned
returns-clause-partitioned g c =
    if-both c.found_behind.result
    (λ found. found.at ≤ length c.args.self.now)
    (λ found. (p : g.row.T.Denot → Bool) → ComputesKey g.P.Fn p c.args.pred.now → IsEnd p c.args.run.now.items.now c.passed-passed.result → IsEnd p c.args.self.now found.at)
    (λ found. (p : g.row.T.Denot → Bool) → ComputesKey g.P.Fn p c.args.pred.now → IsPartitionedBy p c.args.self.now → IsPartitionPoint (λ y. p y ≡ true) (λ y. p y ≡ false) c.args.self.now found.at)
    (λ found bound end p by parted. point-is p c.args.self.now found.at parted (end p by (c.passed-passed.ensures.end p by (parted-run p c.args.self.now c.args.run.now.items.now c.args.run.now.start c.requires.run parted))) bound)
    c.found_behind.ensures.bound c.found_behind.ensures.end
