use Rattle.std.proofs.Common.{◌≡◌, ◌++◌, map}
use Rattle.canvas_doc.proofs.copies.in_order.Given as goal

abbrev pub invariant-loop-shape : goal.invariant-loop-shape
invariant-loop-shape l = map (λ shape. shape.now) l.all.items ++ l.shape-iterator ≡ l.records
