use Rattle.std.proofs.Common.{◌≡◌, ℕ, ◌+◌, ◌≤◌, ◌∙◌, ap, arith}
use Rattle.canvas_record.specs.Picture.{colour}
use Rattle.canvas_paint.specs.Items.{last_colour}
use Rattle.canvas_paint.specs.Pictures.{rows_of}
use Rattle.canvas_scene.specs.Scenes.{display_list_of}
use Rattle.canvas_paint.proofs.Raster.{rows-agree}
use Rattle.canvas_paint.specs.Strips.{strip_start}
use Rattle.canvas_paint.proofs.Joined.{in-window}
use Rattle.canvas_plane.specs.declared.windows.Window.{Window}
use Rattle.canvas_world.proofs.piece.painted.Goals as goal

pub returns : goal.returns
returns c =
    let w : Window = c.args.window.now in
    let r : ℕ × ℕ = c.strip_rows-first.result in
    let rows : r ≡ (strip_start w.h c.args.cut.k c.args.cut.n, strip_start w.h (c.args.cut.k + 1) c.args.cut.n) = c.strip_rows-first.ensures.rows ∙ ap (λ h. (strip_start h c.args.cut.k c.args.cut.n, strip_start h (c.args.cut.k + 1) c.args.cut.n)) c.h.ensures.value in
    let low : r.0 ≤ r.1 = c.strip_rows-first.ensures.order.0 in
    let high : r.1 ≤ w.h = omega (arith, c.strip_rows-first.ensures.order.1, c.h.ensures.value) in
    c.from_vec.ensures ∙ c.in_ok-bytes.ensures.rows
    ∙ ap (λ l. rows_of (last_colour l) w r.0 r.1) c.display_list.ensures
    ∙ rows-agree (last_colour (display_list_of c.in_ok-scene.scene)) (colour c.args.document.now.records) w r.0 r.1 low high (λ k j p q. c.in_ok-scene.ensures.colours _ _ (in-window w k j p q))
    ∙ ap (λ (p : ℕ × ℕ). rows_of (colour c.args.document.now.records) w p.0 p.1) rows
