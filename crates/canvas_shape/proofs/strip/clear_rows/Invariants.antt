use Rattle.std.proofs.Common.{◌≡◌, ℕ, ◌<◌, get_or, false}
use Rattle.canvas_shape.specs.declared.edge_flags.EdgeFlags.{EdgeFlags}
use Rattle.canvas_shape.specs.Flags.{is_held}
use Rattle.canvas_shape.proofs.strip.clear_rows.Given as goal

abbrev pub invariant-loop-k : goal.invariant-loop-k
invariant-loop-k l = (j i : ℕ) (d : EdgeFlags) → j < l.k → is_held (get_or l.rows j d).words i ≡ false
