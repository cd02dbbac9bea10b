use Rattle.std.proofs.Common.{arith, ◌+◌, ◌^◌, ◌/◌, ap, ◌∙◌}
use Rattle.std.specs.Prelude.{nat_lt}
use Rattle.std.proofs.lemmas.Int.{to_z-of_z}
use Rattle.canvas_plane.specs.Sides.{scale_of}
use Rattle.canvas_shape.proofs.Grids.{scale-positive, steps-before, steps-level}
use Rattle.canvas_shape.proofs.grid.steps_before.Goals as goal

pub returns-clause-before : goal.returns-clause-before
returns-clause-before c = λ k.
    let edge = c.ranges.edge in let from = c.ranges.from in
    ap (λ n. nat_lt k (c.way_before.result / 2 ^ n + 1)) c.from.ensures
    ∙ steps-before c.args.edge c.args.from c.way_before.result (scale_of c.args.level) k (scale-positive c.args.level) (simp to_z-of_z at c.way_before.ensures)

pub returns-clause-most : goal.returns-clause-most
returns-clause-most c = λ k le.
    let edge = c.ranges.edge in let from = c.ranges.from in
    steps-level c.args.edge c.args.from _ _ c.args.level k (omega arith) (simp to_z-of_z at c.way_before.ensures) le
