use Rattle.std.proofs.Common.{◌∙◌, ◌<◌, ◌^◌, arith, sym}
use Rattle.canvas_shape.specs.Words.{has}
use Rattle.canvas_shape.proofs.Bits.{has-not, turned, unturned}
use Rattle.canvas_shape.proofs.flag_words.carried.Goals as goal

pub returns-then-is_first : goal.returns-then-is_first
returns-then-is_first c = λ i lt.
    let fits : c.args.word < 2 ^ 64 = omega arith in
    has-not c.args.word i fits lt ∙ turned (has c.args.word i) (has c.args.next 0) (sym c.is_first.ensures ∙ c.if-is_first.true)

pub returns-else-is_first : goal.returns-else-is_first
returns-else-is_first c = λ i lt. unturned (has c.args.word i) (has c.args.next 0) (sym c.is_first.ensures ∙ c.if-is_first.false)
