use Rattle.canvas_shape.specs.Ellipse.{is_in_ellipse}
use Rattle.std.proofs.lemmas.Int.{to_z-of_z}
use Rattle.std.specs.Int.{w32}
use Rattle.std.proofs.Common.{ap, ◌∙◌, to_z, of_z}
use Rattle.canvas_shape.proofs.kinds.carried_ellipse_holds.Goals as goal

pub returns : goal.returns
returns c =
    c.ellipse_holds.ensures
    ∙ ap (λ x. is_in_ellipse c.sides.result x (to_z w32 (of_z w32 c.args.y))) (to_z-of_z w32 c.args.x c.ranges.x)
    ∙ ap (is_in_ellipse c.sides.result c.args.x) (to_z-of_z w32 c.args.y c.ranges.y)
    ∙ ap (λ b. is_in_ellipse b c.args.x c.args.y) (c.sides.ensures.value ∙ c.carried_box.ensures)
