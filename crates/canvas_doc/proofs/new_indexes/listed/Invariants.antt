use Rattle.std.proofs.Common.{◌≡◌, ◌++◌}
use Rattle.canvas_doc.proofs.new_indexes.listed.Given as goal

abbrev pub invariant-loop-shape : goal.invariant-loop-shape
invariant-loop-shape l = l.all.items ++ l.shape-iterator ≡ l.records
