use Rattle.std.proofs.Common.{◌≡◌, ℕ, ◌<◌, [], get_or, vec_len}
use Rattle.canvas_shape.specs.Flags.{is_held}
use Rattle.canvas_shape.specs.declared.edge_flags.EdgeFlags.{EdgeFlags}
use Rattle.canvas_paint.specs.Blocks.{row_has}
use Rattle.canvas_paint.proofs.leaf.held_rows.Given as goal

abbrev pub invariant-loop-row : goal.invariant-loop-row
invariant-loop-row l = record {
  count : vec_len l.words ≡ l.row-index;
  held : (j k : ℕ) (d : EdgeFlags) → j < l.row-index → k < 256 → row_has (get_or l.words.items j []) k ≡ is_held (get_or l.rows j d).words k;
}
