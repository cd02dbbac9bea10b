use Rattle.std.proofs.Common.{◌≡◌, ℕ, ◌<◌, ◌≤◌, ◌-◌, ◌+◌, List, length, cond, get_or, ◌&&◌}
use Rattle.canvas_shape.specs.Words.{has}
use Rattle.canvas_paint.specs.Words.{is_within}
use Rattle.canvas_paint.proofs.row.fill_runs.Given as goal

abbrev pub invariant-loop-run : goal.invariant-loop-run
invariant-loop-run l = record { within : l.at ≤ 64; filled : (k : ℕ) (d : List ℕ) → k < length l.row → get_or l.row k d ≡ cond (is_within l.base k (l.base + l.at) && has l.word (k - l.base)) l.fn.colour (get_or l.initial.row k d) }

abbrev pub decreases-loop-run : goal.decreases-loop-run
decreases-loop-run l = 64 - l.at
