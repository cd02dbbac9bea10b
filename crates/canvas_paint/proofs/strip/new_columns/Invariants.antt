use Rattle.std.proofs.Common.{◌≡◌, ℕ, All, None, vec_len}
use Rattle.canvas_paint.specs.Columns.{IsNew, blocks_in, fill_in}
use Rattle.canvas_paint.proofs.strip.new_columns.Given as goal

abbrev pub invariant-loop : goal.invariant-loop
invariant-loop l = record { count : vec_len l.columns ≡ l.counter; new : All IsNew l.columns.items; empty : (k j : ℕ) → fill_in (blocks_in l.columns.items) k j ≡ None }
