use Rattle.std.proofs.Common.{◌&&◌}
use Rattle.canvas_shape.specs.Words.{has}
use Rattle.canvas_paint.specs.Blocks.{form_holds}
use Rattle.canvas_paint.proofs.Cutting.{none-held}
use Rattle.canvas_paint.proofs.block.Form.covered.Goals as goal

pub returns-in-Rows : goal.returns-in-Rows
returns-in-Rows c = λ i k j on. none-held i (has c.args.reach i && form_holds c.args.self.now k j) on
