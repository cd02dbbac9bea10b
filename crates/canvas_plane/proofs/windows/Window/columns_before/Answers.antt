use Rattle.std.proofs.Common.{◌∙◌, ◌+ℤ◌, ◌*ℤ◌, pos, ap, to_z, of_z, w32, w64}
use Rattle.std.specs.Prelude.{int_le, int_lt}
use Rattle.std.proofs.lemmas.Int.{to_z-of_z}
use Rattle.canvas_plane.specs.Sides.{scale_of}
use Rattle.canvas_plane.specs.Window.{column_shown}
use Rattle.canvas_plane.proofs.Levels.{edge-fits, scale-least}
use Rattle.canvas_plane.proofs.windows.Window.columns_before.Goals as goal

pub returns-clause-before : goal.returns-clause-before
returns-clause-before c = λ k h.
    let window = c.args.self.now in
    let x = to_z-of_z w32 window.x (edge-fits (scale_of window.level) window.x window.w (scale-least window.level) window.across) in
    c.places_before.ensures.before k h
    ∙ ap (λ z. int_lt ((z +ℤ pos k) *ℤ pos (scale_of window.level)) (to_z w64 (of_z w64 c.args.edge))) x
    ∙ ap (int_lt (column_shown window k)) (to_z-of_z w64 c.args.edge c.ranges.edge)

pub returns-clause-after : goal.returns-clause-after
returns-clause-after c = λ k h.
    let window = c.args.self.now in
    let x = to_z-of_z w32 window.x (edge-fits (scale_of window.level) window.x window.w (scale-least window.level) window.across) in
    c.places_before.ensures.after k h
    ∙ ap (λ z. int_le (to_z w64 (of_z w64 c.args.edge)) ((z +ℤ pos k) *ℤ pos (scale_of window.level))) x
    ∙ ap (λ e. int_le e (column_shown window k)) (to_z-of_z w64 c.args.edge c.ranges.edge)
