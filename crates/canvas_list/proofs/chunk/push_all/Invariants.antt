use Rattle.std.proofs.Common.{◌≡◌, ◌++◌}
use Rattle.canvas_list.proofs.chunk.push_all.Given as goal

abbrev pub invariant-loop-item : goal.invariant-loop-item
invariant-loop-item g l = l.all.items ≡ l.initial.all.items ++ l.yielded
