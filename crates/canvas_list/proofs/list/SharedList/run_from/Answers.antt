use Rattle.canvas_list.specs.Chunks.{joined}
use Rattle.canvas_list.proofs.Runs.{run-of-run}
use Rattle.std.proofs.Common.{◌+◌, length}
use Rattle.canvas_list.proofs.list.SharedList.run_from.Goals as goal

pub returns-then-begin_before-clause-run : goal.returns-then-begin_before-clause-run
returns-then-begin_before-clause-run g c =
    run-of-run c.args.self.now (joined c.args.run.now.beyond.now) c.run_over-found.result.items.now c.args.run.now.beyond_start c.run_over-found.result.start c.requires.held.more c.run_over-found.ensures.run

pub returns-then-begin_before-2-clause-run : goal.returns-then-begin_before-2-clause-run
returns-then-begin_before-2-clause-run g c =
    run-of-run c.args.self.now (joined c.args.run.now.behind.now) c.run_in-found.result.items.now (c.args.run.now.start + length c.args.run.now.items.now) c.run_in-found.result.start c.requires.held.rest c.run_in-found.ensures.run
