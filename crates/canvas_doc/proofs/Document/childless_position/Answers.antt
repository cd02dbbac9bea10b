use Rattle.std.proofs.Common.{◌∙◌, arith, sym}
use Rattle.canvas_doc.proofs.editing.InPlace.{deleted-leaf, deleted-one}
use Rattle.canvas_doc.proofs.Document.childless_position.Goals as goal

pub returns-else-below-clause-alone : goal.returns-else-below-clause-alone
returns-else-below-clause-alone c =
    deleted-one c.args.id c.in_ok-found.found.at (record { records = c.self.inside.records; next = c.self.inside.next }) c.args.self.now c.self.inside.order.shapes c.children_range-below.result.start c.children_range-below.result.end
    c.self.view_is c.self.invariant.well_formed c.self.invariant.in_order c.in_ok-found.ensures.there c.children_range-below.ensures (omega (arith, c.if-below.false))

pub returns-else-is_container-clause-alone : goal.returns-else-is_container-clause-alone
returns-else-is_container-clause-alone c =
    deleted-leaf c.args.id c.in_ok-found.found.at (record { records = c.self.inside.records; next = c.self.inside.next }) c.args.self.now c.in_ok-found.found.shape.now
    c.self.view_is c.self.invariant.well_formed c.in_ok-found.ensures (sym c.is_container.ensures ∙ c.if-is_container.false)
