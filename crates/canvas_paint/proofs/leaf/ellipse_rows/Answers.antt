use Rattle.std.proofs.Common.{arith, ◌≤◌, subst, sym}
use Rattle.canvas_shape.specs.Leaves.{sides_of}
use Rattle.canvas_shape.specs.Ellipse.{is_in_ellipse}
use Rattle.canvas_plane.specs.Window.{column_shown, row_shown}
use Rattle.canvas_paint.proofs.Cutting.{put-row, taken-rows}
use Rattle.canvas_paint.proofs.leaf.ellipse_rows.Goals as goal

pub loop-k-preserved : goal.loop-k-preserved
loop-k-preserved c = put-row (λ k j. is_in_ellipse (sides_of c.args.sides.now) (column_shown c.args.window.now k) (row_shown c.args.window.now j)) c.loop-k.words c.next_ellipse_row.result c.args.top c.loop-k.k c.args.window.now.w (omega arith) c.loop-k.invariant c.next_ellipse_row.ensures

pub next_ellipse_row-requires-clause-made : goal.next_ellipse_row-requires-clause-made
next_ellipse_row-requires-clause-made c = taken-rows (λ k j. is_in_ellipse (sides_of c.args.sides.now) (column_shown c.args.window.now k) (row_shown c.args.window.now j)) c.loop-k.words c.args.top c.loop-k.k c.args.window.now.w (subst (λ n. c.loop-k.k ≤ n) (sym c.loop-k.auto.words) c.loop-k.auto.k-end) c.loop-k.invariant
