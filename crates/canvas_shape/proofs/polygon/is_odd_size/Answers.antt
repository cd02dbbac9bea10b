use Rattle.canvas_shape.proofs.Pairs.{odd-size}
use Rattle.canvas_shape.proofs.polygon.is_odd_size.Goals as goal

pub returns : goal.returns
returns c = odd-size c.args.size
