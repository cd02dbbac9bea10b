use Rattle.canvas_doc.proofs.boxes.Widened.{group-at}
use Rattle.canvas_doc.proofs.kept_bounds.group_position.Goals as goal

pub returns : goal.returns
returns c =
    (c.in_ok-group.group.now, group-at c.args.order.now c.args.records.now c.requires.in_order c.requires.rising c.args.parent c.in_ok-group.group.now c.position_among.result c.in_ok-group.ensures c.position_among.ensures, c.in_ok-group.ensures)
