use Rattle.canvas_shape.proofs.FlagLaws.{toggled}
use Rattle.std.proofs.Common.{◌≡◌, length, arith}
use Rattle.canvas_shape.proofs.edge_flags.EdgeFlags.toggle_through.Goals as goal

pub returns : goal.returns
returns c =
    let four : length c.args.self.now.words ≡ 4 = omega arith in
    toggled c.args.self.now.words c.flipped.result c.args.last (omega arith) four c.flipped.ensures
