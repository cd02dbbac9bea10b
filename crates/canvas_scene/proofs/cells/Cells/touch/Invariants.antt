use Rattle.std.proofs.Common.{◌≡◌}
use Rattle.canvas_scene.proofs.cells.Cells.touch.Given as goal

abbrev pub invariant-loop-row : goal.invariant-loop-row
invariant-loop-row l = record {
  across : l.self.across ≡ l.initial.self.across;
  down : l.self.down ≡ l.initial.self.down;
  rows : l.self.rows ≡ l.initial.self.rows;
}
