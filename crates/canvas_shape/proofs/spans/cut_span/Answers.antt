use Rattle.std.proofs.Common.{◌∙◌, sym}
use Rattle.std.proofs.lemmas.Int.{to_z-of_z}
use Rattle.canvas_shape.proofs.Held.{cut-some, cut-none, some-range, lt-from_test, le-from_test}
use Rattle.canvas_shape.proofs.spans.cut_span.Goals as goal

pub returns-then-is_filled : goal.returns-then-is_filled
returns-then-is_filled c =
    let f = c.ranges.from in let t = c.ranges.to in let l = c.ranges.left in let r = c.ranges.right in
    let from = simp to_z-of_z at c.cut-span.ensures.from in
    let to = simp to_z-of_z at c.cut-span.ensures.to in
    let filled = lt-from_test c.cut-span.result.from c.cut-span.result.to (sym c.is_filled.ensures ∙ c.if-is_filled.true) in
    (cut-some c.args.from c.args.to c.args.left c.args.right c.cut-span.result c.requires from to filled, some-range c.args.from c.args.to c.args.left c.args.right c.cut-span.result.from c.cut-span.result.to c.requires from to filled)

pub returns-else-is_filled : goal.returns-else-is_filled
returns-else-is_filled c =
    let f = c.ranges.from in let t = c.ranges.to in let l = c.ranges.left in let r = c.ranges.right in
    cut-none c.args.from c.args.to c.args.left c.args.right c.cut-span.result.from c.cut-span.result.to c.requires
    (simp to_z-of_z at c.cut-span.ensures.from)
    (simp to_z-of_z at c.cut-span.ensures.to)
    (le-from_test c.cut-span.result.from c.cut-span.result.to (sym c.is_filled.ensures ∙ c.if-is_filled.false))
