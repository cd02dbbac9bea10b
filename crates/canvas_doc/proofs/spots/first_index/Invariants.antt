use Rattle.std.proofs.Common.{◌≡◌, ◌-◌, take, drop}
use Rattle.canvas_doc.specs.Ends.{first_index}
use Rattle.canvas_doc.proofs.spots.first_index.Given as goal

abbrev pub invariant-loop-at : goal.invariant-loop-at
invariant-loop-at l = first_index l.own (take (l.end - l.start) (drop l.start l.order.shapes)) ≡ first_index l.own (take (l.end - l.at) (drop l.at l.order.shapes))
