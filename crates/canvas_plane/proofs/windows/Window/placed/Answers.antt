use Rattle.std.proofs.Common.{ℕ, ℤ, Bool, ◌≤◌, ◌≡◌, refl, ◌∙◌, ap, FitsSigned, subst, sym, true, to_z, of_z, w32, w64}
use Rattle.std.proofs.lemmas.Bool.{and_parts}
use Rattle.std.proofs.lemmas.Int.{to_z-of_z}
use Rattle.canvas_plane.specs.Sides.{IsWindowSide, is_window, is_window_side, scale_of}
use Rattle.canvas_plane.proofs.Levels.{edge-fits, scale-least}
use Rattle.canvas_plane.proofs.Sides.{side-known}
use Rattle.canvas_plane.proofs.windows.Window.placed.Goals as goal

-- the sides of a window that passed the test, and its place as it is kept
passed : (s : ℕ) (x y : ℤ) (w h : ℕ) (b : Bool) → FitsSigned w64 x → FitsSigned w64 y → b ≡ is_window s (to_z w64 (of_z w64 x)) (to_z w64 (of_z w64 y)) w h → b ≡ true → IsWindowSide s x w × IsWindowSide s y h
passed s x y w h b fits-x fits-y e t =
    let test : is_window s x y w h ≡ true = simp to_z-of_z at (sym e ∙ t) in
    let parts = and_parts (is_window_side s x w) (is_window_side s y h) test in
    (side-known s x w parts.0, side-known s y h parts.1)

kept : (s : ℕ) (x : ℤ) (w : ℕ) → 1 ≤ s → FitsSigned w64 x → IsWindowSide s x w → to_z w32 (of_z w32 (to_z w64 (of_z w64 x))) ≡ x
kept s x w least fits side = ap (λ z. to_z w32 (of_z w32 z)) (to_z-of_z w64 x fits) ∙ to_z-of_z w32 x (edge-fits s x w least side)

pub overflow_cast-result : goal.overflow_cast-result
overflow_cast-result c =
    let s = scale_of c.args.level in
    let sides = passed (scale_of c.args.level) c.args.x c.args.y c.args.w c.args.h c.is_window.result c.ranges.x c.ranges.y c.is_window.ensures c.if-is_window.true in
    subst (λ z. FitsSigned w32 z) (sym (to_z-of_z w64 c.args.x c.ranges.x)) (edge-fits s c.args.x c.args.w (scale-least c.args.level) sides.0)

pub overflow_cast-result-then-is_window : goal.overflow_cast-result-then-is_window
overflow_cast-result-then-is_window c =
    let s = scale_of c.args.level in
    let sides = passed (scale_of c.args.level) c.args.x c.args.y c.args.w c.args.h c.is_window.result c.ranges.x c.ranges.y c.is_window.ensures c.if-is_window.true in
    subst (λ z. FitsSigned w32 z) (sym (to_z-of_z w64 c.args.y c.ranges.y)) (edge-fits s c.args.y c.args.h (scale-least c.args.level) sides.1)

pub invariant_of-result : goal.invariant_of-result
invariant_of-result c =
    let s = scale_of c.args.level in
    let least = scale-least c.args.level in
    let sides = passed (scale_of c.args.level) c.args.x c.args.y c.args.w c.args.h c.is_window.result c.ranges.x c.ranges.y c.is_window.ensures c.if-is_window.true in
    record {
      leveled = c.if-level-gt6.false;
      across = subst (λ z. IsWindowSide s z c.args.w) (sym (kept s c.args.x c.args.w least c.ranges.x sides.0)) sides.0;
      down = subst (λ z. IsWindowSide s z c.args.h) (sym (kept s c.args.y c.args.h least c.ranges.y sides.1)) sides.1;
    }

pub returns-then-is_window-clause-value : goal.returns-then-is_window-clause-value
returns-then-is_window-clause-value c =
    let s = scale_of c.args.level in
    let least = scale-least c.args.level in
    let sides = passed (scale_of c.args.level) c.args.x c.args.y c.args.w c.args.h c.is_window.result c.ranges.x c.ranges.y c.is_window.ensures c.if-is_window.true in
    record {
      at_level = refl;
      left = kept s c.args.x c.args.w least c.ranges.x sides.0;
      top = kept s c.args.y c.args.h least c.ranges.y sides.1;
      width = refl;
      height = refl;
    }
