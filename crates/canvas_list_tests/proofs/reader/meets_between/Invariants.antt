use Rattle.std.proofs.Common.{◌≡◌}
use Rattle.canvas_list_tests.proofs.reader.meets_between.Given as goal

abbrev pub invariant-loop-at : goal.invariant-loop-at
invariant-loop-at l = l.reader ≡ l.list
