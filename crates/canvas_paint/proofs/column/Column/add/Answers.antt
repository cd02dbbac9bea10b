use Rattle.std.proofs.Common.{ap, ◌∙◌}
use Rattle.canvas_paint.specs.Blocks.{last_block_fill}
use Rattle.canvas_paint.proofs.Painting.{last-push}
use Rattle.canvas_paint.proofs.column.Column.add.Goals as goal

pub returns-in_ok-push-clause-front : goal.returns-in_ok-push-clause-front
returns-in_ok-push-clause-front c = λ k j low high.
    ap (λ l. last_block_fill l k j) c.in_ok-push.ensures.items ∙ last-push c.args.self.now.blocks.items c.args.block.now k j
