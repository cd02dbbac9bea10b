use Rattle.std.proofs.Common.{◌≤◌}
use Rattle.canvasd.proofs.status_doors.head_of.Given as goal

-- what came fits
abbrev pub invariant-reads : goal.invariant-reads
invariant-reads g l = l.count ≤ 8192
