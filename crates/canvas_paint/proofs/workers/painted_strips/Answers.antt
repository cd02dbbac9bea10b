use Rattle.std.proofs.Common.{Err, rules}
use Rattle.canvas_paint.proofs.workers.painted_strips.Goals as goal

pub returns-clause-passed : goal.returns-clause-passed
returns-clause-passed g c = λ k below.
    let h = (c.in_ok-strips.ensures.each k (Err (record {})) below).1.met in
    search rules
