use Rattle.std.proofs.Common.{ap, ◌∙◌}
use Rattle.canvas_plane.specs.Page.{is_in}
use Rattle.canvas_shape.proofs.Sizes.{pixel-in}
use Rattle.canvas_shape.proofs.kinds.box_holds.Goals as goal

pub returns : goal.returns
returns c =
    c.holds.ensures
    ∙ pixel-in c.sides.result c.args.x c.args.y c.widened.result c.widened-2.result c.ranges.x c.ranges.y (record { sfits = c.widened.type_inv }) (record { sfits = c.widened-2.type_inv }) c.widened.ensures c.widened-2.ensures
    ∙ ap (λ b. is_in b c.args.x c.args.y) (c.sides.ensures.value ∙ c.carried_box.ensures)
