use Rattle.std.proofs.Common.{◌≡◌, ℕ, ◌<◌, List, length, cond, get_or}
use Rattle.canvas_paint.specs.Words.{is_within}
use Rattle.canvas_paint.proofs.row.fill_short.Given as goal

abbrev pub invariant-loop-at : goal.invariant-loop-at
invariant-loop-at l = (k : ℕ) (d : List ℕ) → k < length l.row → get_or l.row k d ≡ cond (is_within l.from k l.at) l.fn.colour (get_or l.initial.row k d)
