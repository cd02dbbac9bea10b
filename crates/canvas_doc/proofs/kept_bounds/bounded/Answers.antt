use Rattle.std.proofs.Common.{◌∙◌, List, drop, length, subst, sym}
use Rattle.canvas_record.specs.declared.records.Record.{Record}
use Rattle.canvas_doc.specs.PlaceOrder.{IsInPlaceOrder}
use Rattle.canvas_doc.proofs.lists.Listing.{bounded-if, bounds-written}
use Rattle.canvas_doc.proofs.kept_bounds.bounded.Goals as goal

pub raise_all-requires-clause-in_order : goal.raise_all-requires-clause-in_order
raise_all-requires-clause-in_order c = subst (λ (l : List Record). IsInPlaceOrder l c.args.records.now) (sym c.deref.ensures.value) c.requires.in_order

pub raise_all-requires-clause-rising : goal.raise_all-requires-clause-rising
raise_all-requires-clause-rising c = c.requires.rising

pub raise_all-requires-clause-limits : goal.raise_all-requires-clause-limits
raise_all-requires-clause-limits c = c.requires.limits

pub raise_all-requires-clause-grounded : goal.raise_all-requires-clause-grounded
raise_all-requires-clause-grounded c = c.requires.grounded

pub placed_with-requires-clause-few : goal.placed_with-requires-clause-few
placed_with-requires-clause-few c = c.requires.few

pub returns-clause-shapes : goal.returns-clause-shapes
returns-clause-shapes c = c.placed_with.ensures.shapes

pub returns-clause-bounds : goal.returns-clause-bounds
returns-clause-bounds c =
    bounded-if c.placed_with.result c.args.order.items c.deref-2.result.now c.placed_with.ensures.shapes c.placed_with.ensures.bounds
    (bounds-written c.args.order.items c.deref.result.now c.raise_all.new.bounds c.deref-2.result.now c.in_ok-bounds.bounds.len (drop (length c.raise_all.new.bounds) c.in_ok-bounds.bounds.items) c.deref.ensures.value c.deref-2.ensures.value (c.in_ok-bounds.ensures.len ∙ c.len.ensures ∙ c.args.order.ok.0) c.raise_all.ensures)
