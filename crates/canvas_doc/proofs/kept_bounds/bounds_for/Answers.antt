use Rattle.canvas_doc.proofs.boxes.BoundsLaws.{carried-within, within-itself}
use Rattle.canvas_doc.proofs.kept_bounds.bounds_for.Goals as goal

pub returns-then-not-shape-clause-below : goal.returns-then-not-shape-clause-below
returns-then-not-shape-clause-below c = λ j s b e f child shown group.
    carried-within c.args.shape.now.pose b c.children_hull.result c.carried.result c.carried.result c.requires.limits.quarter (c.children_hull.ensures j s b e f child) c.carried.ensures (within-itself c.carried.result)
