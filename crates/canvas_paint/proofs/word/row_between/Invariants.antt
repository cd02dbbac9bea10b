use Rattle.canvas_paint.specs.Words.{is_within}
use Rattle.canvas_paint.proofs.RowWords.{IsBegun}
use Rattle.canvas_paint.proofs.word.row_between.Given as goal

abbrev pub invariant-loop-n : goal.invariant-loop-n
invariant-loop-n l = IsBegun l.row (λ k. is_within l.from k l.to) l.n
