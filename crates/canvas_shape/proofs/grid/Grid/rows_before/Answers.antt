use Rattle.std.proofs.Common.{ap, ◌∙◌, ◌+◌}
use Rattle.std.specs.Prelude.{int_lt, nat_lt, min}
use Rattle.std.specs.Int.{w64}
use Rattle.std.proofs.lemmas.Int.{to_z-of_z}
use Rattle.canvas_plane.specs.Window.{row_shown}
use Rattle.canvas_shape.proofs.Grids.{row-inside, rows-less}
use Rattle.canvas_shape.proofs.grid.Grid.rows_before.Goals as goal

pub returns-clause-before : goal.returns-clause-before
returns-clause-before c = λ k lt.
    let grid = c.args.self.now in
    ap (nat_lt k) (c.min.ensures ∙ ap (λ n. min n c.args.count) c.saturating_sub.ensures)
    ∙ rows-less c.rows_before-before.result grid.first c.args.count k lt
    ∙ c.rows_before-before.ensures.before (grid.first + k) (row-inside grid.first k c.args.count grid.window.h lt c.requires)
    ∙ ap (int_lt (row_shown grid.window (grid.first + k))) (to_z-of_z w64 c.args.edge c.ranges.edge)
