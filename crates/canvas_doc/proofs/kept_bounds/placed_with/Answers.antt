use Rattle.std.proofs.Common.{◌≡◌, ◌∙◌, ◌⊎◌, inl, inr, sym, ◌<◌, ◌^◌, ◌++◌, List, ap, arith, length, map}
use Rattle.std.proofs.lemmas.List.{length-append, length-map}
use Rattle.std.specs.Iterator.Adapters.{zip_first, zip_second}
use Rattle.std.specs.Slice.Iter.{iter_rest}
use Rattle.std.specs.Vec.Iter.{into_iter_items}
use Rattle.canvas_doc.specs.declared.placed_shapes.PlacedShape.{PlacedShape}
use Rattle.canvas_record.specs.declared.records.Record.{Record}
use Rattle.canvas_doc.proofs.lists.Listing.{bounds-if, none-behind, one-more, shapes-if}
use Rattle.canvas_doc.proofs.editing.Placements.{bounds_of, shape_of}
use Rattle.canvas_doc.proofs.kept_bounds.placed_with.Goals as goal
use Rattle.canvas_doc.proofs.kept_bounds.placed_with.Goals.{After-from_vec}

so-far : (all : List PlacedShape) (rest items : List Record) → map shape_of all ++ rest ≡ items → length items < 2 ^ 32 → length all < 2 ^ 32
so-far all rest items e few = omega (arith, ap length e, length-append (map shape_of all) rest, length-map all shape_of)

pub from_vec-requires : goal.from_vec-requires
from_vec-requires c = so-far c.loop-shape.all.items (into_iter_items (zip_first c.loop-shape.shape-iterator)) c.args.order.items c.loop-shape.invariant.shapes c.requires.few

ended : (c : After-from_vec) → (length (into_iter_items (zip_first c.loop-shape.shape-iterator)) ≡ 0) ⊎ (length (iter_rest (zip_second c.loop-shape.shape-iterator)) ≡ 0)
ended c = elim c.in-None.ensures.steps [
  | inl w ↦ inl (sym c.loop-shape.shape-iterator.a.rest.ok.0 ∙ w.1.0)
  | inr w ↦ inr w.1.0
]

pub loop-shape-preserved : goal.loop-shape-preserved
loop-shape-preserved c = record {
  shapes = one-more shape_of c.loop-shape.all.items c.push.new.self.items c.new.result c.in-Some.shape (into_iter_items (zip_first c.loop-shape.shape-iterator)) (into_iter_items (zip_first c.next.new.self)) c.args.order.items
      c.new.ensures.shape c.in_ok-push.ensures.items c.in-Some.ensures.steps.0.0 c.loop-shape.invariant.shapes;
  bounds = one-more bounds_of c.loop-shape.all.items c.push.new.self.items c.new.result c.in-Some.held.now (iter_rest (zip_second c.loop-shape.shape-iterator)) (iter_rest (zip_second c.next.new.self)) c.args.bounds.now
      c.new.ensures.bounds c.in_ok-push.ensures.items c.in-Some.ensures.steps.1 c.loop-shape.invariant.bounds;
}

pub returns-clause-bounds : goal.returns-clause-bounds
returns-clause-bounds c =
    bounds-if c.from_vec.result c.loop-shape.all.items c.args.bounds.now
    (none-behind c.loop-shape.all.items c.args.order.items (into_iter_items (zip_first c.loop-shape.shape-iterator)) c.args.bounds.now (iter_rest (zip_second c.loop-shape.shape-iterator)) c.loop-shape.invariant.shapes c.loop-shape.invariant.bounds c.requires.long (ended c)).1
    c.from_vec.ensures

pub returns-clause-shapes : goal.returns-clause-shapes
returns-clause-shapes c =
    shapes-if c.from_vec.result c.loop-shape.all.items c.args.order.items
    (none-behind c.loop-shape.all.items c.args.order.items (into_iter_items (zip_first c.loop-shape.shape-iterator)) c.args.bounds.now (iter_rest (zip_second c.loop-shape.shape-iterator)) c.loop-shape.invariant.shapes c.loop-shape.invariant.bounds c.requires.long (ended c)).0
    c.from_vec.ensures
