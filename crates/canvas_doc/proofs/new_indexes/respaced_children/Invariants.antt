use Rattle.std.proofs.Common.{◌≡◌, ◌-◌, drop, map, take}
use Rattle.canvas_record.specs.Effect.{respaced}
use Rattle.canvas_doc.specs.Placements.{placements_of}
use Rattle.canvas_doc.proofs.editing.Placements.{bounds_of, shape_of}
use Rattle.canvas_doc.proofs.new_indexes.respaced_children.Given as goal

abbrev pub invariant-loop-at : goal.invariant-loop-at
invariant-loop-at l = record {
  all : placements_of l.all ≡ l.order;
  shapes : map shape_of l.children.items ≡ map (respaced l.fn.parent l.order.shapes) (take (l.at - l.start) (drop l.start l.order.shapes));
  bounds : map bounds_of l.children.items ≡ take (l.at - l.start) (drop l.start l.order.bounds);
}
