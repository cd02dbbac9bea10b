-- Files of windows.
use Rattle.std.proofs.Common.{◌≡◌, ℕ, ◌-◌, sym, ◌∙◌}
use Rattle.std.specs.Prelude.{ℤ, ◌+ℤ◌, ◌*ℤ◌, pos}
use Rattle.canvas_plane.specs.declared.windows.Window.{Window}
use Rattle.canvas_plane.specs.Sides.{scale_of}
use Rattle.canvas_plane.specs.Window.{IsWindowAt}
use Rattle.canvas_record.specs.Contents.{Contents}
use Rattle.canvas_record.specs.Picture.{colour}
use Rattle.canvas_ppm.specs.P6.{p6_of}
use Rattle.canvas_paint.specs.Pictures.{raster_of}
use Rattle.canvas_look.specs.Raster.{file_of}

-- the file of a window goes by its level, place and sides
pub window-file : (d : Contents) (level : ℕ) (x y : ℤ) (w h : ℕ) (p q : Window) → IsWindowAt level x y w h p → IsWindowAt level x y w h q → file_of d p ≡ file_of d q
unfolding file_of
window-file d level x y w h p q a b =
    let levels : p.level ≡ q.level = a.at_level ∙ sym b.at_level in
    let lefts : p.x ≡ q.x = a.left ∙ sym b.left in
    let tops : p.y ≡ q.y = a.top ∙ sym b.top in
    let widths : p.w ≡ q.w = a.width ∙ sym b.width in
    let heights : p.h ≡ q.h = a.height ∙ sym b.height in
    λ k. p6_of (widths k) (heights k)
    (raster_of (λ i j. (colour d.records ((lefts k +ℤ pos i) *ℤ pos (scale_of (levels k))) ((tops k +ℤ pos j) *ℤ pos (scale_of (levels k)))).0) (widths k) 0 (heights k - 0))
