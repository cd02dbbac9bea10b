use Rattle.std.proofs.Common.{◌≡◌, length}
use Rattle.canvas_list_tests.proofs.changes.number_items.Given as goal

abbrev pub invariant-loop : goal.invariant-loop
invariant-loop g l = length l.items.items ≡ l.counter
