use Rattle.canvas_shape.proofs.Leans.{floor-above, floor-below}
use Rattle.canvas_shape.proofs.polygon.half_floor.Goals as goal

pub returns-then-a-ge0-clause-least : goal.returns-then-a-ge0-clause-least
returns-then-a-ge0-clause-least c = let e = c.quotient.ensures in (floor-above c.args.a c.quotient.result c.args.b c.ranges.a c.requires.small c.if-a-ge0.true e.least e.most e.bound).0

pub returns-then-a-ge0-clause-most : goal.returns-then-a-ge0-clause-most
returns-then-a-ge0-clause-most c = let e = c.quotient.ensures in (floor-above c.args.a c.quotient.result c.args.b c.ranges.a c.requires.small c.if-a-ge0.true e.least e.most e.bound).1

pub returns-else-a-ge0-clause-least : goal.returns-else-a-ge0-clause-least
returns-else-a-ge0-clause-least c =
    let e = c.quotient-else-a-ge0.ensures in
    (floor-below c.args.a c.flipped.result c.flipped_size.result c.quotient-else-a-ge0.result c.args.b c.ranges.a (record { sfits = c.flipped.type_inv }) c.flipped_size.ensures.value c.flipped.ensures e.least e.most).0

pub returns-else-a-ge0-clause-most : goal.returns-else-a-ge0-clause-most
returns-else-a-ge0-clause-most c =
    let e = c.quotient-else-a-ge0.ensures in
    (floor-below c.args.a c.flipped.result c.flipped_size.result c.quotient-else-a-ge0.result c.args.b c.ranges.a (record { sfits = c.flipped.type_inv }) c.flipped_size.ensures.value c.flipped.ensures e.least e.most).1
