use Rattle.std.proofs.Common.{◌≡◌, ◌||◌, ◌&&◌, ℕ, true}
use Rattle.canvas_scene.specs.Cells.{is_marked}
use Rattle.canvas_scene.specs.Places.{is_among, is_bit}
use Rattle.canvas_scene.proofs.cells.Cells.mark.Given as goal

abbrev pub invariant-loop-row : goal.invariant-loop-row
invariant-loop-row l = record {
  across : l.self.across ≡ l.initial.self.across;
  down : l.self.down ≡ l.initial.self.down;
  cells : (column row : ℕ) → is_marked l.self.rows column row ≡ true → (is_marked l.initial.self.rows column row || (is_among l.initial.row l.row-end row && is_bit l.word column)) ≡ true;
}
