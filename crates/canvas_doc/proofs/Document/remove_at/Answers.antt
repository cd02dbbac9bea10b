use Rattle.std.proofs.Common.{◌<◌, ap, length, subst, sym}
use Rattle.std.specs.List.{remove}
use Rattle.std.specs.Result.{is_ok}
use Rattle.canvas_record.specs.declared.records.Record.{Record}
use Rattle.canvas_record.specs.Contents.{Contents, IsWellFormed}
use Rattle.canvas_doc.specs.PlaceOrder.{IsPlaceOf}
use Rattle.canvas_doc.proofs.editing.InPlace.{taken-if}
use Rattle.canvas_doc.proofs.places.Reordered.{seen-at}
use Rattle.canvas_doc.proofs.Document.remove_at.Goals as goal

pub change_both-requires-clause-place : goal.change_both-requires-clause-place
change_both-requires-clause-place c =
    (seen-at c.self.inside.order.shapes c.self.inside.records c.args.self.now.records c.at.result.now c.value.result.now c.args.at c.position_in-from.result
    c.self.invariant.in_order (ap (λ (d : Contents). d.records) c.self.view_is) c.requires.there c.at.ensures c.value.ensures c.position_in-from.ensures).within

pub invariant_of-self : goal.invariant_of-self
invariant_of-self c =
    let d : Contents = record { records = c.self.inside.records; next = c.self.inside.next } in
    taken-if d c.self.inside.order.shapes c.self.inside.order.bounds c.self.invariant c.change_both.new.records c.change_both.new.self.shapes c.change_both.new.self.bounds
    (is_ok c.change_both.result) c.at.result.now c.args.at c.position_in-from.result c.change_both.ensures.other c.change_both.ensures.shapes c.change_both.ensures.bounds
    (subst (λ (e : Contents). IsWellFormed (record { records = remove e.records c.args.at; next = e.next })) (sym c.self.view_is) c.requires.well_formed)
    (subst (λ (e : Contents). c.args.at < length e.records) (sym c.self.view_is) c.requires.there)
    c.at.ensures
    (subst (λ (r : Record). IsPlaceOf r.place c.self.inside.order.shapes c.position_in-from.result) c.value.ensures c.position_in-from.ensures)
