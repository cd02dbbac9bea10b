use Rattle.std.proofs.Common.{List, subst, sym}
use Rattle.canvas_record.specs.declared.records.Record.{Record}
use Rattle.canvas_doc.specs.PlaceOrder.{IsKeptInOrder}
use Rattle.canvas_doc.specs.Placements.{Placements}
use Rattle.canvas_doc.proofs.Document.try_clone.Goals as goal

pub invariant_of-result : goal.invariant_of-result
invariant_of-result c =
    subst (λ (p : Placements). IsKeptInOrder (record { records = c.in_ok-try_clone.field-0; next = c.self.inside.next }) p.shapes p.bounds) (sym c.in_ok-try_clone-2.ensures)
    (subst (λ (l : List Record). IsKeptInOrder (record { records = l; next = c.self.inside.next }) c.self.inside.order.shapes c.self.inside.order.bounds) (sym c.in_ok-try_clone.ensures) c.self.invariant)
