use Rattle.std.proofs.Common.{◌≤◌}
use Rattle.canvas_list.proofs.search.count_before.Given as goal

abbrev pub invariant-loop-item : goal.invariant-loop-item
invariant-loop-item g l = record { few : l.count ≤ l.item-index }
