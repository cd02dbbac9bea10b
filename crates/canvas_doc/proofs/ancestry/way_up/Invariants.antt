use Rattle.canvas_doc.proofs.tree.Ways.{IsOnWay}
use Rattle.canvas_doc.proofs.ancestry.way_up.Given as goal

abbrev pub invariant-loop-depth : goal.invariant-loop-depth
invariant-loop-depth l = IsOnWay l.records l.id l.steps l.fn.parent l.depth l.at l.has_own l.pose
