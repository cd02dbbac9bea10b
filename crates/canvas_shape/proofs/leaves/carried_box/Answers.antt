use Rattle.canvas_shape.proofs.Sides.{apart-corners}
use Rattle.canvas_shape.proofs.leaves.carried_box.Goals as goal

pub hull-requires-clause-across : goal.hull-requires-clause-across
hull-requires-clause-across c = (apart-corners c.args.pose.now c.args.w c.args.h c.corner.result c.corner-2.result c.apply.result c.apply-2.result c.corner.ensures.value c.corner-2.ensures.value c.apply.ensures.value c.apply-2.ensures.value c.requires.quarter c.requires.sides).0

pub hull-requires-clause-down : goal.hull-requires-clause-down
hull-requires-clause-down c = (apart-corners c.args.pose.now c.args.w c.args.h c.corner.result c.corner-2.result c.apply.result c.apply-2.result c.corner.ensures.value c.corner-2.ensures.value c.apply.ensures.value c.apply-2.ensures.value c.requires.quarter c.requires.sides).1
