use Rattle.std.proofs.Common.{◌≡◌, ◌≤◌}
use Rattle.canvas_list_tests.proofs.passes.count_given.Given as goal

abbrev pub invariant-loop-at : goal.invariant-loop-at
invariant-loop-at g l = (l.reader ≡ l.list) × (l.count ≤ l.at)
