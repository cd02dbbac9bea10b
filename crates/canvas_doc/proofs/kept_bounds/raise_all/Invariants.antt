use Rattle.canvas_doc.specs.Bounds.{HoldChildren, IsGroupPosition}
use Rattle.canvas_doc.proofs.boxes.Widened.{HoldOwnBelow}
use Rattle.canvas_doc.proofs.kept_bounds.raise_all.Given as goal

abbrev pub invariant-loop-at : goal.invariant-loop-at
invariant-loop-at l = record {
  own : HoldOwnBelow l.at l.order l.bounds;
  children : HoldChildren l.order l.bounds;
  above : IsGroupPosition l.above.parent l.records l.order l.above.group;
}
