use Rattle.std.proofs.Common.{arith, ◌∙◌}
use Rattle.canvas_plane.specs.Window.{column_shown}
use Rattle.canvas_paint.proofs.leaf.next_ellipse_row.Goals as goal

pub returns-then-same-top : goal.returns-then-same-top
returns-then-same-top c = λ k lt. c.requires.made k c.mirrored-same.result lt (omega arith) (omega arith) ∙ c.mirrored-same.ensures (column_shown c.args.window.now k)
