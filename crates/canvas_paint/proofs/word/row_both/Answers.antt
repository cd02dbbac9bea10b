use Rattle.std.proofs.Common.{◌&&◌}
use Rattle.canvas_paint.proofs.RowWords.{rows-of}
use Rattle.canvas_paint.proofs.word.row_both.Goals as goal

pub returns : goal.returns
returns c = λ k lt. rows-of (λ a b. a && b) c.args.a c.args.b c.both.result c.both-2.result c.both-3.result c.both-4.result k lt c.both.ensures c.both-2.ensures c.both-3.ensures c.both-4.ensures
