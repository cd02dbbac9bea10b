use Rattle.std.proofs.Common.{◌≡◌, ◌-◌, drop, map, take}
use Rattle.canvas_doc.specs.Placements.{placements_of}
use Rattle.canvas_doc.proofs.order.children.Given as goal

abbrev pub invariant-loop-at : goal.invariant-loop-at
invariant-loop-at g l = record {
  reader : placements_of l.reader ≡ l.order;
  list : map (λ shape. shape.now) l.list.items ≡ take (l.at - l.start) (drop l.start l.order.shapes);
}
