use Rattle.std.proofs.Common.{◌+◌, ap, ◌∙◌, ◌&&◌}
use Rattle.std.specs.Prelude.{nat_lt}
use Rattle.canvas_plane.specs.Window.{column_shown, row_shown}
use Rattle.canvas_shape.specs.Edges.{is_in_polygon}
use Rattle.canvas_shape.proofs.parts.Vertices.flag_rows.Goals as goal

pub returns : goal.returns
returns c = λ k i d lt.
    let points = c.args.self.now.points.now in
    let window = c.args.window.now in
    c.flag_edges.ensures k i d lt
    ∙ ap (λ w. nat_lt i w.w && is_in_polygon points (column_shown w i) (row_shown w (c.of.result.first + k))) c.of.ensures.window
    ∙ ap (λ n. nat_lt i window.w && is_in_polygon points (column_shown window i) (row_shown window (n + k))) c.of.ensures.first
