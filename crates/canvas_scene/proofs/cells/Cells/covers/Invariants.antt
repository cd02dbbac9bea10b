use Rattle.std.proofs.Common.{◌≡◌, ℕ, true}
use Rattle.canvas_scene.specs.Cells.{is_marked}
use Rattle.canvas_scene.specs.Places.{is_among, is_bit}
use Rattle.canvas_scene.proofs.cells.Cells.covers.Given as goal

abbrev pub invariant-loop-row : goal.invariant-loop-row
invariant-loop-row l = (column row : ℕ) → is_among l.initial.row l.row row ≡ true → is_bit l.word column ≡ true → is_marked l.self.rows column row ≡ true
