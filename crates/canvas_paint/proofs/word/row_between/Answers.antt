use Rattle.std.proofs.Common.{arith}
use Rattle.canvas_paint.specs.Words.{is_within}
use Rattle.canvas_paint.proofs.RowWords.{all-words, more-words, start-row}
use Rattle.canvas_paint.proofs.word.row_between.Goals as goal

pub loop-n-init : goal.loop-n-init
loop-n-init c = start-row c.args.from c.args.to

pub loop-n-preserved : goal.loop-n-preserved
loop-n-preserved c = more-words c.loop-n.row (λ k. is_within c.args.from k c.args.to) c.loop-n.n c.part.result (omega arith) c.part.ensures c.loop-n.invariant

pub returns : goal.returns
returns c = all-words c.loop-n.row c.args.from c.args.to c.loop-n.n (omega arith) c.loop-n.invariant
