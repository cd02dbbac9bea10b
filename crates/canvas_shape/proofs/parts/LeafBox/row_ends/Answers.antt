use Rattle.std.proofs.Common.{◌∙◌, ap}
use Rattle.std.proofs.lemmas.Int.{to_z-of_z}
use Rattle.canvas_shape.specs.Ellipse.{is_in_ellipse}
use Rattle.canvas_shape.proofs.parts.LeafBox.row_ends.Goals as goal

pub returns : goal.returns
returns c = λ x.
    let y = c.ranges.y in
    let row = simp to_z-of_z at c.row_ends.ensures in
    row x ∙ ap (λ b. is_in_ellipse b x c.args.y) c.sides.ensures.value
