use Rattle.canvas_shape.proofs.FlagLaws.{none-held}
use Rattle.canvas_shape.proofs.edge_flags.EdgeFlags.none.Goals as goal

pub returns : goal.returns
returns c = λ i. none-held i
