use Rattle.std.proofs.Common.{ap, ◌∙◌}
use Rattle.std.specs.Prelude.{int_lt}
use Rattle.std.specs.Int.{w64}
use Rattle.std.proofs.lemmas.Int.{to_z-of_z}
use Rattle.canvas_plane.specs.Window.{column_shown}
use Rattle.canvas_shape.proofs.grid.Grid.columns_before.Goals as goal

pub returns-clause-before : goal.returns-clause-before
returns-clause-before c = λ k lt. c.columns_before.ensures.before k lt ∙ ap (int_lt (column_shown c.args.self.now.window k)) (to_z-of_z w64 c.args.edge c.ranges.edge)
