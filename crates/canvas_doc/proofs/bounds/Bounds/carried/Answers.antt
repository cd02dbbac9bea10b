use Rattle.std.proofs.Common.{◌∙◌, sym}
use Rattle.canvas_doc.proofs.boxes.BoundsLaws.{corners-carried}
use Rattle.canvas_doc.proofs.bounds.Bounds.carried.Goals as goal

pub returns-else-is_whole : goal.returns-else-is_whole
returns-else-is_whole c = corners-carried c.args.pose.now c.args.self.now c.between.result c.apply.result c.apply-else-is_whole.result c.left_top.result c.right_bottom.result (sym c.is_whole.ensures ∙ c.if-is_whole.false) c.left_top.ensures c.right_bottom.ensures c.apply.ensures.value c.apply-else-is_whole.ensures.value c.between.ensures
