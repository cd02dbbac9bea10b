use Rattle.std.proofs.Common.{[], ap, get_or, length, subst, sym, ◌++◌, ◌∙◌, ◌∷◌}
use Rattle.std.proofs.lemmas.List.{take_all, take_more}
use Rattle.canvas_key.specs.Part.{IsPart}
use Rattle.canvas_key.proofs.gap.write_part.Goals as goal

pub loop-byte-preserved : goal.loop-byte-preserved
loop-byte-preserved c =
    let part = c.integer_part-byte-items.result.now in
    let at = c.loop-byte.byte-index in
    c.push.ensures.items ∙ ap (λ l. l ++ get_or part at 0 ∷ []) c.loop-byte.invariant ∙ sym (take_more part at 0 c.loop-byte-test.true)

pub returns-clause-value : goal.returns-clause-value
returns-clause-value c =
    let part = c.integer_part-byte-items.result.now in
    c.loop-byte.invariant ∙ take_all c.loop-byte.byte-index part c.loop-byte-test.false ∙ c.integer_part-byte-items.ensures.value

pub returns-clause-part : goal.returns-clause-part
returns-clause-part c =
    let part = c.integer_part-byte-items.result.now in
    subst IsPart (sym (c.loop-byte.invariant ∙ take_all c.loop-byte.byte-index part c.loop-byte-test.false)) c.integer_part-byte-items.ensures.part

pub returns-clause-long : goal.returns-clause-long
returns-clause-long c =
    let part = c.integer_part-byte-items.result.now in
    ap length (c.loop-byte.invariant ∙ take_all c.loop-byte.byte-index part c.loop-byte-test.false) ∙ c.integer_part-byte-items.ensures.long
