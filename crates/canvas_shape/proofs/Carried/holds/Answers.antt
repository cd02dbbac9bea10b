use Rattle.std.proofs.Common.{ap, sym, ◌∙◌}
use Rattle.canvas_plane.specs.Page.{is_in}
use Rattle.canvas_shape.specs.Leaves.{carried_holds}
use Rattle.canvas_shape.proofs.Sizes.{pixel-in}
use Rattle.canvas_shape.proofs.Carried.holds.Goals as goal

pub returns-in-Rect : goal.returns-in-Rect
returns-in-Rect c =
    c.holds.ensures
    ∙ pixel-in c.sides.result c.args.x c.args.y c.from.result c.from-in-Rect.result c.ranges.x c.ranges.y (record { sfits = c.from.type_inv }) (record { sfits = c.from-in-Rect.type_inv }) c.from.ensures c.from-in-Rect.ensures
    ∙ ap (λ b. is_in b c.args.x c.args.y) c.sides.ensures.value
    ∙ ap (λ k. carried_holds k c.args.x c.args.y) (sym c.in-Rect.is)
