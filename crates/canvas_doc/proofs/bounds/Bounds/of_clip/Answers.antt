use Rattle.canvas_doc.proofs.boxes.BoundsLaws.{clip-held}
use Rattle.canvas_doc.proofs.bounds.Bounds.of_clip.Goals as goal

pub returns-then-are_near : goal.returns-then-are_near
returns-then-are_near c = clip-held c.args.out.now c.inverse-back.result c.args.clip.now c.between.result c.apply.result c.apply-then-are_near.result c.left_top-p.result c.right_bottom-q.result c.left_top-p.ensures c.right_bottom-q.ensures c.apply.ensures.value c.apply-then-are_near.ensures.value c.inverse-back.ensures.undone c.between.ensures
