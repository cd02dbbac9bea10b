use Rattle.std.proofs.Common.{◌≡◌, ◌-◌, take, drop}
use Rattle.canvas_doc.specs.Ends.{last_index}
use Rattle.canvas_doc.proofs.spots.last_index.Given as goal

abbrev pub invariant-loop-at : goal.invariant-loop-at
invariant-loop-at l = last_index l.own (take (l.end - l.start) (drop l.start l.order.shapes)) ≡ last_index l.own (take (l.at - l.start) (drop l.start l.order.shapes))
