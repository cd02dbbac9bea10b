use Rattle.std.proofs.Common.{◌≡◌, take}
use Rattle.canvas_doc.specs.Deletion.{containers_under}
use Rattle.canvas_doc.proofs.deletion.containers_under.Given as goal

abbrev pub invariant-loop-holder : goal.invariant-loop-holder
invariant-loop-holder l = l.all.items ≡ containers_under l.order.shapes (take l.holder-index l.holders)
