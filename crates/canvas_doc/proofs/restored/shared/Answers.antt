use Rattle.std.proofs.Common.{ap, arith, length}
use Rattle.std.specs.Vec.Iter.{into_iter_items}
use Rattle.std.proofs.lemmas.List.{length-append}
use Rattle.canvas_doc.proofs.lists.Listing.{moved-on}
use Rattle.canvas_doc.proofs.restored.shared.Goals as goal

pub loop-shape-preserved : goal.loop-shape-preserved
loop-shape-preserved c =
    moved-on c.loop-shape.all.items c.push.new.self.items (into_iter_items c.loop-shape.shape-iterator) (into_iter_items c.next.new.self) c.args.records.items c.in_ok-new.field-0 c.in-Some.shape
    c.in_ok-push.ensures.items c.in_ok-new.ensures c.in-Some.ensures.steps.0 c.loop-shape.invariant

pub from_vec-requires : goal.from_vec-requires
from_vec-requires c = omega (arith, simp length-append at (ap length c.loop-shape.invariant))
