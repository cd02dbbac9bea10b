use Rattle.std.proofs.Common.{◌∙◌, ap, ◌<◌, length, arith}
use Rattle.std.specs.Prelude.{map}
use Rattle.canvas_plane.specs.Motion.{carry}
use Rattle.canvas_shape.specs.Edges.{is_odd_along}
use Rattle.canvas_shape.proofs.Turned.{turned-last}
use Rattle.canvas_shape.proofs.kinds.carried_last.Goals as goal

pub returns-clause-value : goal.returns-clause-value
returns-clause-value c = λ x y.
    let some : 0 < length c.args.points.now = omega arith in
    ap (λ q. is_odd_along q (map (carry c.args.page.now) c.args.points.now) x y) c.apply.ensures.value ∙ turned-last (carry c.args.page.now) c.args.points.now _ x y some
