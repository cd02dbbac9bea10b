use Rattle.std.proofs.Common.{arith}
use Rattle.canvas_doc.proofs.places.LeftOut.{left-before, left-behind}
use Rattle.canvas_doc.proofs.place_order.position_without.Goals as goal

pub returns-then-from-at : goal.returns-then-from-at
returns-then-from-at c = left-before c.args.place.now c.args.order.now.shapes c.args.from c.position_in-at.result c.position_in-at.ensures (omega arith)

pub returns-else-from-at : goal.returns-else-from-at
returns-else-from-at c = left-behind c.args.place.now c.args.order.now.shapes c.args.from c.position_in-at.result c.position_in-at.ensures (omega arith) c.requires.from
