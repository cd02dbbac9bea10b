use Rattle.std.proofs.Common.{◌≡◌, ◌++◌, ◌-◌, drop, take}
use Rattle.canvas_doc.specs.Deletion.{container_ids}
use Rattle.canvas_doc.proofs.deletion.with_containers.Given as goal

abbrev pub invariant-loop-at : goal.invariant-loop-at
invariant-loop-at l = l.all.items ≡ l.fn.ids.items ++ container_ids (take (l.at - l.start) (drop l.start l.order.shapes))
