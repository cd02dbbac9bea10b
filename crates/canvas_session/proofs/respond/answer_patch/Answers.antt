use Rattle.std.proofs.Common.{◌≡◌, None, w32}
use Rattle.std.proofs.lemmas.Int.{to_z-of_z}
use Rattle.canvas_plane.specs.Limits.{window_fault}
use Rattle.canvas_plane.specs.Window.{IsWindowAt}
use Rattle.canvas_session.proofs.Shown.{shows_taken}
use Rattle.canvas_session.proofs.respond.answer_patch.Goals as goal

pub returns-in-Ok : goal.returns-in-Ok
returns-in-Ok g c =
    let x = to_z-of_z w32 c.args.x c.ranges.x in
    let y = to_z-of_z w32 c.args.y c.ranges.y in
    let is : window_fault c.args.level c.args.x c.args.y c.args.w c.args.h ≡ None = rw (x, y) at c.in-Ok.ensures.fault in
    let place : IsWindowAt c.args.level c.args.x c.args.y c.args.w c.args.h c.in-Ok.window = rw (x, y) at c.in-Ok.ensures.value in
    shows_taken (window_fault c.args.level c.args.x c.args.y c.args.w c.args.h) c.args.workers (g.B.Board.seen c.args.board.now) c.args.level c.args.x c.args.y c.args.w c.args.h c.answer_window.result (g.B.Board.seen c.answer_window.new.board)
    c.in-Ok.window is place c.answer_window.ensures
