use Rattle.std.proofs.Common.{◌≡◌, ◌-◌, drop, filter, not, take}
use Rattle.canvas_doc.specs.Deletion.{has_id_of}
use Rattle.canvas_doc.proofs.deletion.without_range.Given as goal

abbrev pub invariant-loop-at : goal.invariant-loop-at
invariant-loop-at l = l.left ≡ filter (λ r. not (has_id_of (take (l.at - l.start) (drop l.start l.order.shapes)) r)) l.fn.records
