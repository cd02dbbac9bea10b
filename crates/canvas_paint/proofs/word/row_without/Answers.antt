use Rattle.std.proofs.Common.{◌&&◌, not}
use Rattle.canvas_paint.proofs.RowWords.{rows-of}
use Rattle.canvas_paint.proofs.word.row_without.Goals as goal

pub returns : goal.returns
returns c = λ k lt. rows-of (λ a b. a && not b) c.args.a c.args.b c.without.result c.without-2.result c.without-3.result c.without-4.result k lt c.without.ensures c.without-2.ensures c.without-3.ensures c.without-4.ensures
