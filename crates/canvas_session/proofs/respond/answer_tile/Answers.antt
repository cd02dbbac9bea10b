use Rattle.std.proofs.Common.{◌≡◌, None, w32, pos, ◌*ℤ◌}
use Rattle.std.proofs.lemmas.Int.{to_z-of_z}
use Rattle.canvas_plane.specs.Limits.{window_fault}
use Rattle.canvas_plane.specs.Window.{IsWindowAt}
use Rattle.canvas_session.proofs.Shown.{shows_taken}
use Rattle.canvas_session.proofs.respond.answer_tile.Goals as goal

pub returns-in-Ok : goal.returns-in-Ok
returns-in-Ok g c =
    let col = to_z-of_z w32 c.args.col c.ranges.col in
    let row = to_z-of_z w32 c.args.row c.ranges.row in
    let is : window_fault c.args.level (pos 256 *ℤ c.args.col) (pos 256 *ℤ c.args.row) 256 256 ≡ None = rw (col, row) at c.in-Ok.ensures.fault in
    let place : IsWindowAt c.args.level (pos 256 *ℤ c.args.col) (pos 256 *ℤ c.args.row) 256 256 c.in-Ok.window = rw (col, row) at c.in-Ok.ensures.value in
    shows_taken (window_fault c.args.level (pos 256 *ℤ c.args.col) (pos 256 *ℤ c.args.row) 256 256) c.args.workers (g.B.Board.seen c.args.board.now) c.args.level (pos 256 *ℤ c.args.col) (pos 256 *ℤ c.args.row) 256 256 c.answer_window.result (g.B.Board.seen c.answer_window.new.board)
    c.in-Ok.window is place c.answer_window.ensures
