use Rattle.std.proofs.Common.{ap, cond, get_or, sym}
use Rattle.canvas_paint.proofs.Painting.{none-covered}
use Rattle.canvas_paint.proofs.row.fill_word.Goals as goal

pub returns-else-word-ne0 : goal.returns-else-word-ne0
returns-else-word-ne0 c = λ k d lt. sym (ap (λ t. cond t c.args.colour (get_or c.args.row.now k d)) (none-covered c.args.base c.args.word k c.if-word-ne0.false))
