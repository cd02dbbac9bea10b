use Rattle.std.proofs.Common.{◌+◌, FitsSigned, rules}
use Rattle.std.specs.Int.{w64}
use Rattle.std.proofs.lemmas.Int.{to_z-of_z}
use Rattle.canvas_plane.specs.Window.{row_shown}
use Rattle.canvas_shape.proofs.Strips.{column-right}
use Rattle.canvas_shape.proofs.strip.flag_edge.Goals as goal

pub returns-then-is_right_of-2 : goal.returns-then-is_right_of-2
returns-then-is_right_of-2 c = λ k i d lt.
    let from : FitsSigned w64 c.args.from.x = search rules in
    let to : FitsSigned w64 c.args.to.x = search rules in
    let window = c.args.grid.window in
    column-right c.args.from c.args.to (row_shown window (c.args.grid.first + k)) window _ i
    ((simp to_z-of_z at c.is_right_of.ensures).0 c.if-is_right_of.true) ((simp to_z-of_z at c.is_right_of-then-is_right_of.ensures).0 c.if-is_right_of-2.true)

pub flag_whole-requires-clause-beyond : goal.flag_whole-requires-clause-beyond
flag_whole-requires-clause-beyond c =
    let from : FitsSigned w64 c.args.from.x = search rules in
    let to : FitsSigned w64 c.args.to.x = search rules in
    ((simp to_z-of_z at c.is_left_of.ensures).0 c.if-is_left_of.true, (simp to_z-of_z at c.is_left_of-then-is_left_of.ensures).0 c.if-is_left_of-2.true)

pub flag_crossed-requires-clause-first : goal.flag_crossed-requires-clause-first
flag_crossed-requires-clause-first c = λ e.
    let x : FitsSigned w64 c.args.from.x = search rules in
    (simp to_z-of_z at c.has_inside.ensures).0 c.if-has_inside.true

pub flag_crossed-requires-clause-second : goal.flag_crossed-requires-clause-second
flag_crossed-requires-clause-second c = λ e.
    let x : FitsSigned w64 c.args.to.x = search rules in
    (simp to_z-of_z at c.has_inside-then-has_inside.ensures).0 c.if-has_inside-2.true
