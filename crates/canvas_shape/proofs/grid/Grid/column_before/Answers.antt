use Rattle.canvas_plane.specs.Window.{column_shown}
use Rattle.std.proofs.Common.{◌<◌, ◌≤◌, ◌≤ℤ◌, ap, ◌∙◌, sym, subst, FitsSigned, rules, arith, refl, ◌<ℤ◌, to_z, of_z}
use Rattle.std.specs.Prelude.{int_lt}
use Rattle.std.specs.Int.{w64}
use Rattle.std.proofs.lemmas.Int.{to_z-of_z}
use Rattle.std.proofs.Math.Facts.{Fits-of_lt}
use Rattle.canvas_shape.proofs.Grids.{edge-near, shown-from}
use Rattle.canvas_shape.proofs.grid.Grid.column_before.Goals as goal

pub steps_before-requires-clause-most : goal.steps_before-requires-clause-most
steps_before-requires-clause-most c =
    let edge = c.ranges.edge in
    let grid = c.args.self.now in
    let left : FitsSigned w64 grid.covered.left = search rules in
    let right = shown-from grid.covered.left grid.window.x grid.window.w grid.window.level grid.window.level (ap (λ b. b.left) grid.exact) refl in
    let level : grid.window.level ≤ 6 = subst (λ n. n ≤ 6) c.level.ensures.value c.level.ensures.bound in
    simp to_z-of_z (edge-near c.args.edge grid.covered.left grid.window.w grid.window.level grid.narrow level (subst (λ z. c.args.edge ≤ℤ z) (sym right) c.requires.most))

pub returns-clause-within : goal.returns-clause-within
returns-clause-within c =
    let edge = c.ranges.edge in
    let grid = c.args.self.now in
    let left : FitsSigned w64 grid.covered.left = search rules in
    let right = shown-from grid.covered.left grid.window.x grid.window.w c.level.result grid.window.level (ap (λ b. b.left) grid.exact) c.level.ensures.value in
    (simp to_z-of_z at c.steps_before.ensures.most) grid.window.w (subst (λ z. c.args.edge ≤ℤ z) (sym right) c.requires.most)

pub overflow_cast-result : goal.overflow_cast-result
overflow_cast-result c =
    let edge = c.ranges.edge in
    let grid = c.args.self.now in
    let left : FitsSigned w64 grid.covered.left = search rules in
    let right = shown-from grid.covered.left grid.window.x grid.window.w c.level.result grid.window.level (ap (λ b. b.left) grid.exact) c.level.ensures.value in
    let within : c.steps_before.result < grid.window.w = (simp to_z-of_z at c.steps_before.ensures.most) grid.window.w (subst (λ z. c.args.edge ≤ℤ z) (sym right) c.requires.most) in
    Fits-of_lt (omega (arith, within, grid.narrow))

pub returns-clause-before : goal.returns-clause-before
returns-clause-before c = λ k.
    let edge = c.ranges.edge in
    let grid = c.args.self.now in
    let left : FitsSigned w64 grid.covered.left = search rules in
    (simp to_z-of_z at c.steps_before.ensures.before) k ∙ ap (λ z. int_lt z c.args.edge) (shown-from grid.covered.left grid.window.x k c.level.result grid.window.level (ap (λ b. b.left) grid.exact) c.level.ensures.value)

pub steps_before-requires-clause-least : goal.steps_before-requires-clause-least
steps_before-requires-clause-least c =
    let grid = c.args.self.now in
    let left : FitsSigned w64 grid.covered.left = search rules in
    subst (λ z. z <ℤ to_z w64 (of_z w64 c.args.edge)) (sym (to_z-of_z w64 grid.covered.left left ∙ ap (λ b. b.left) grid.exact))
    (subst (λ z. column_shown grid.window 0 <ℤ z) (sym (to_z-of_z w64 c.args.edge c.ranges.edge)) c.requires.least)
