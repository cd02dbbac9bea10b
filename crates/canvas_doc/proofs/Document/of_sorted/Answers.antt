use Rattle.std.proofs.Common.{List, subst, sym}
use Rattle.canvas_record.specs.declared.records.Record.{Record}
use Rattle.canvas_doc.specs.PlaceOrder.{IsInPlaceOrder}
use Rattle.canvas_doc.proofs.Document.of_sorted.Goals as goal

pub invariant_of-result : goal.invariant_of-result
invariant_of-result c = record {
  well_formed = c.requires;
  in_order = subst (λ (l : List Record). IsInPlaceOrder l c.args.records) (sym c.in_ok-order.ensures.shapes) c.in_ok-sorted.ensures.order;
  bounded = c.in_ok-order.ensures.bounds;
}
