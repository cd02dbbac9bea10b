use Rattle.std.proofs.Common.{refl}
use Rattle.canvas_doc.proofs.editing.InPlace.{lists-taken}
use Rattle.canvas_doc.proofs.places.Reordered.{seen-at}
use Rattle.canvas_doc.proofs.deletion.without_at.Goals as goal

pub remove-requires : goal.remove-requires
remove-requires c =
    (seen-at c.args.lists.order.shapes c.args.lists.records c.args.lists.records c.at.result.now c.value.result.now c.args.at c.position_in-from.result
    c.requires.lists.in_order refl c.requires.at c.at.ensures c.value.ensures c.position_in-from.ensures).within

pub returns-clause-lists : goal.returns-clause-lists
returns-clause-lists c =
    lists-taken c.args.lists.records c.args.lists.order.shapes c.change.new.self c.remove.new.self.shapes c.args.lists.order.bounds c.remove.new.self.bounds
    c.at.result.now c.args.at c.position_in-from.result c.requires.lists
    (seen-at c.args.lists.order.shapes c.args.lists.records c.args.lists.records c.at.result.now c.value.result.now c.args.at c.position_in-from.result
    c.requires.lists.in_order refl c.requires.at c.at.ensures c.value.ensures c.position_in-from.ensures)
    c.in_ok-change.ensures.made c.in_ok-remove.ensures.shapes c.in_ok-remove.ensures.bounds
