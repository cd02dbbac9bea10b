use Rattle.std.proofs.Common.{◌≡◌, ◌++◌, map}
use Rattle.std.specs.Iterator.Adapters.{zip_first, zip_second}
use Rattle.std.specs.Slice.Iter.{iter_rest}
use Rattle.std.specs.Vec.Iter.{into_iter_items}
use Rattle.canvas_doc.proofs.editing.Placements.{bounds_of, shape_of}
use Rattle.canvas_doc.proofs.kept_bounds.placed_with.Given as goal

abbrev pub invariant-loop-shape : goal.invariant-loop-shape
invariant-loop-shape l = record {
  shapes : map shape_of l.all.items ++ into_iter_items (zip_first l.shape-iterator) ≡ l.fn.order.items;
  bounds : map bounds_of l.all.items ++ iter_rest (zip_second l.shape-iterator) ≡ l.bounds;
}
