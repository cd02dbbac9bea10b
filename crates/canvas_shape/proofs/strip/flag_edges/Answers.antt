use Rattle.std.proofs.Common.{◌+◌, ◌∙◌, ap, arith, refl, get_or, ◌&&◌}
use Rattle.std.specs.Prelude.{nat_lt}
use Rattle.canvas_plane.specs.Motion.{not_same}
use Rattle.canvas_shape.specs.Edges.{is_odd_along}
use Rattle.canvas_shape.specs.Flags.{is_held}
use Rattle.canvas_plane.specs.Window.{column_shown, row_shown}
use Rattle.canvas_shape.proofs.Odd.{false-same}
use Rattle.canvas_shape.proofs.Strips.{edge-step, edge-done}
use Rattle.canvas_shape.proofs.strip.flag_edges.Goals as goal

pub loop-to-init : goal.loop-to-init
loop-to-init c = record {
  counted = λ k i d lt. ap (λ b. not_same b (nat_lt i c.args.grid.window.w && is_odd_along c.last-from.result c.args.points.now (column_shown c.args.grid.window i) (row_shown c.args.grid.window (c.args.grid.first + k)))) (c.requires.empty k i d lt) ∙ false-same (nat_lt i c.args.grid.window.w && is_odd_along c.last-from.result c.args.points.now (column_shown c.args.grid.window i) (row_shown c.args.grid.window (c.args.grid.first + k)));
  near = c.last-from.ensures.near;
}

pub loop-to-preserved : goal.loop-to-preserved
loop-to-preserved c = record {
  counted = λ k i d lt. edge-step (is_held (get_or c.loop-to.rows k d).words i) (is_held (get_or c.flag_edge.new.rows k d).words i) (nat_lt i c.args.grid.window.w) _ c.loop-to.from _ _ c.args.points.now c.loop-to.to-index (column_shown c.args.grid.window i) (row_shown c.args.grid.window (c.args.grid.first + k)) c.loop-to-test.true refl (c.flag_edge.ensures k i d lt) (c.loop-to.invariant.counted k i d (omega arith));
  near = c.requires.near c.loop-to.to-index _ c.loop-to-test.true;
}

pub returns : goal.returns
returns c = λ k i d lt.
    edge-done (is_held (get_or c.loop-to.rows k d).words i) (nat_lt i c.args.grid.window.w) _ c.loop-to.from c.args.points.now c.loop-to.to-index (column_shown c.args.grid.window i) (row_shown c.args.grid.window (c.args.grid.first + k)) c.loop-to-test.false (c.loop-to.invariant.counted k i d lt)
    ∙ ap (λ b. nat_lt i c.args.grid.window.w && b) (c.last-from.ensures.value (column_shown c.args.grid.window i) (row_shown c.args.grid.window (c.args.grid.first + k)))
