use Rattle.std.proofs.Common.{◌+◌, ap, ◌∙◌, arith, FitsSigned, rules, sym, subst, ◌<ℤ◌, ◌≤ℤ◌}
use Rattle.std.specs.Int.{w64}
use Rattle.std.proofs.lemmas.Int.{to_z-of_z}
use Rattle.canvas_plane.specs.Motion.{not_same}
use Rattle.canvas_plane.specs.Window.{column_shown}
use Rattle.canvas_shape.specs.Flags.{is_held}
use Rattle.canvas_shape.proofs.Strips.{columns-before}
use Rattle.canvas_shape.proofs.strip.flag_row.Goals as goal

pub returns-then-inside : goal.returns-then-inside
returns-then-inside c = λ i.
    let edge : FitsSigned w64 c.args.edge = search rules in
    let window = c.args.grid.window in
    c.toggle_through.ensures i ∙ ap (not_same (is_held c.args.row.now.words i)) (columns-before (column_shown window) c.args.edge (c.column_before.result + 1) window.w i (omega (arith, c.column_before.ensures.within)) (λ k lt. simp to_z-of_z at (c.column_before.ensures.before k)))

pub returns-else-inside : goal.returns-else-inside
returns-else-inside c = λ i.
    let edge : FitsSigned w64 c.args.edge = search rules in
    let window = c.args.grid.window in
    c.toggle_before.ensures i ∙ ap (not_same (is_held c.args.row.now.words i)) (columns-before (column_shown window) c.args.edge c.columns_before.result window.w i c.columns_before.ensures.within (simp to_z-of_z at c.columns_before.ensures.before))

pub column_before-requires-clause-least : goal.column_before-requires-clause-least
column_before-requires-clause-least c = subst (λ z. column_shown c.args.grid.window 0 <ℤ z) (sym (to_z-of_z w64 c.args.edge c.ranges.edge)) (c.requires c.if-inside.true).0

pub column_before-requires-clause-most : goal.column_before-requires-clause-most
column_before-requires-clause-most c = subst (λ z. z ≤ℤ column_shown c.args.grid.window c.args.grid.window.w) (sym (to_z-of_z w64 c.args.edge c.ranges.edge)) (c.requires c.if-inside.true).1
