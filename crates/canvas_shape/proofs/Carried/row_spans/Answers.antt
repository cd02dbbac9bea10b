use Rattle.std.proofs.lemmas.Int.{to_z-of_z}
use Rattle.canvas_shape.proofs.Carried.row_spans.Goals as goal

pub returns-clause-ok : goal.returns-clause-ok
returns-clause-ok c =
    let y = c.ranges.y in let l = c.ranges.left in let r = c.ranges.right in
    simp to_z-of_z at c.row_spans_with.ensures.ok

pub returns-clause-want : goal.returns-clause-want
returns-clause-want c = let l = c.ranges.left in let r = c.ranges.right in simp to_z-of_z at c.row_spans_with.ensures.want
