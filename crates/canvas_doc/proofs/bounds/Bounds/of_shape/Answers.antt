use Rattle.canvas_doc.proofs.boxes.BoundsLaws.{own-carried}
use Rattle.canvas_doc.proofs.bounds.Bounds.of_shape.Goals as goal

pub returns : goal.returns
returns c = own-carried c.args.kind.now c.args.pose.now c.of_kind.result c.carried.result c.requires.quarter c.of_kind.ensures c.carried.ensures
