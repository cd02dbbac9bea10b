use Rattle.std.proofs.Common.{List, subst, sym}
use Rattle.canvas_record.specs.declared.records.Record.{Record}
use Rattle.canvas_doc.specs.PlaceOrder.{IsInPlaceOrder}
use Rattle.canvas_doc.proofs.kept_bounds.held_bounds_at.Goals as goal

pub is_held_above-requires-2-clause-in_order : goal.is_held_above-requires-2-clause-in_order
is_held_above-requires-2-clause-in_order c =
    subst (λ (l : List Record). IsInPlaceOrder l c.args.records.now) (sym c.in_ok-widen_above.ensures.shapes) c.requires.in_order
