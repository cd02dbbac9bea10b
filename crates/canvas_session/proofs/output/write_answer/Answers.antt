use Rattle.std.proofs.Common.{arith, ◌∙◌, ◌≡◌, length}
use Rattle.canvas_session.proofs.Writes.{wrote_both}
use Rattle.canvas_session.proofs.output.write_answer.Goals as goal

pub returns-clause-wrote : goal.returns-clause-wrote
returns-clause-wrote g c =
    let full : c.write_counted-first.result ≡ length c.as_bytes-line.result.now = omega (arith, c.write_counted-first.ensures.within, c.if-first-line.false) in
    wrote_both _ _ _ _ _ _ _ c.write_counted-first.result c.write_counted-second.result
    (c.as_bytes-line.ensures.value ∙ (c.as_str.ensures.value ∙ c.line-line.ensures)) c.body-body.ensures.bytes full
    c.write_counted-first.ensures.wrote c.write_counted-second.ensures.wrote
