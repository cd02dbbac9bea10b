use Rattle.canvas_doc.proofs.lists.Listing.{moved-on}
use Rattle.canvas_doc.proofs.place_order.shares.Goals as goal

pub loop-shape-preserved : goal.loop-shape-preserved
loop-shape-preserved c =
    moved-on c.loop-shape.all.items c.push.new.self.items c.loop-shape.shape-iterator c.next.new.self c.args.records.now c.in_ok-shared.field-0 c.in-Some.shape.now
    c.in_ok-push.ensures.items c.in_ok-shared.ensures c.in-Some.ensures.steps c.loop-shape.invariant
