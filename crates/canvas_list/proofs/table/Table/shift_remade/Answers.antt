use Rattle.canvas_list.proofs.Ends.{few-after, room-after}
use Rattle.canvas_list.proofs.table.Table.shift_remade.Goals as goal

pub remade-requires-2 : goal.remade-requires-2
remade-requires-2 g c = (
  room-after c.args.self.now c.in_ok-list.list c.args.from c.args.to c.in_ok-list.ensures c.requires.from c.requires.to,
  few-after c.self.inside.parts.items c.args.self.now c.in_ok-list.list c.self.inside.count c.args.from c.self.invariant c.self.view_is c.in_ok-list.ensures c.requires.from,
)
