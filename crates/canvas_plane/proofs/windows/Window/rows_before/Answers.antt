use Rattle.std.proofs.Common.{◌∙◌, ◌+ℤ◌, ◌*ℤ◌, pos, ap, to_z, of_z, w32, w64}
use Rattle.std.specs.Prelude.{int_le, int_lt}
use Rattle.std.proofs.lemmas.Int.{to_z-of_z}
use Rattle.canvas_plane.specs.Sides.{scale_of}
use Rattle.canvas_plane.specs.Window.{row_shown}
use Rattle.canvas_plane.proofs.Levels.{edge-fits, scale-least}
use Rattle.canvas_plane.proofs.windows.Window.rows_before.Goals as goal

pub returns-clause-before : goal.returns-clause-before
returns-clause-before c = λ k h.
    let window = c.args.self.now in
    let y = to_z-of_z w32 window.y (edge-fits (scale_of window.level) window.y window.h (scale-least window.level) window.down) in
    c.places_before.ensures.before k h
    ∙ ap (λ z. int_lt ((z +ℤ pos k) *ℤ pos (scale_of window.level)) (to_z w64 (of_z w64 c.args.edge))) y
    ∙ ap (int_lt (row_shown window k)) (to_z-of_z w64 c.args.edge c.ranges.edge)

pub returns-clause-after : goal.returns-clause-after
returns-clause-after c = λ k h.
    let window = c.args.self.now in
    let y = to_z-of_z w32 window.y (edge-fits (scale_of window.level) window.y window.h (scale-least window.level) window.down) in
    c.places_before.ensures.after k h
    ∙ ap (λ z. int_le (to_z w64 (of_z w64 c.args.edge)) ((z +ℤ pos k) *ℤ pos (scale_of window.level))) y
    ∙ ap (λ e. int_le e (row_shown window k)) (to_z-of_z w64 c.args.edge c.ranges.edge)
