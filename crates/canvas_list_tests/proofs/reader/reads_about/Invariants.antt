use Rattle.std.proofs.Common.{◌≡◌}
use Rattle.canvas_list_tests.proofs.reader.reads_about.Given as goal

abbrev pub invariant-loop-round : goal.invariant-loop-round
invariant-loop-round l = l.reader ≡ l.list
