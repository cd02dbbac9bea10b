use Rattle.std.proofs.Common.{◌≡◌, ◌∙◌, ◌+ℤ◌, ◌*ℤ◌, FitsSigned, pos, arith, ap, to_z, of_z, w32, w64}
use Rattle.std.proofs.lemmas.Int.{ints, to_z-of_z}
use Rattle.canvas_plane.specs.Sides.{scale_of}
use Rattle.canvas_plane.specs.Window.{row_shown}
use Rattle.canvas_plane.proofs.Levels.{edge-fits, place-near, scale-least, small-fits}
use Rattle.canvas_plane.proofs.windows.Window.row_shown.Goals as goal

value : (c : goal.After-page_place) → to_z w64 (of_z w64 c.page_place.result) ≡ row_shown c.args.self.now c.args.j
value c =
    let window = c.args.self.now in
    let kept = to_z-of_z w64 c.page_place.result (record { sfits = c.page_place.type_inv }) in
    let y = to_z-of_z w32 window.y (edge-fits (scale_of window.level) window.y window.h (scale-least window.level) window.down) in
    kept ∙ c.page_place.ensures ∙ ap (λ z. (z +ℤ pos c.args.j) *ℤ pos (scale_of window.level)) y

fits : (c : goal.After-page_place) → FitsSigned w32 (to_z w64 (of_z w64 c.page_place.result))
fits c =
    let window = c.args.self.now in
    let near = place-near (scale_of window.level) window.y window.h c.args.j window.down c.requires in
    let e = value c in
    let low = near.0 in
    let high = near.1 in
    small-fits (to_z w64 (of_z w64 c.page_place.result)) (omega (arith, ints)) (omega (arith, ints))

pub overflow_cast-result : goal.overflow_cast-result
overflow_cast-result c = fits c

pub returns : goal.returns
returns c = to_z-of_z w32 (to_z w64 (of_z w64 c.page_place.result)) (fits c) ∙ value c
