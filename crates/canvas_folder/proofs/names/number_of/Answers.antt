use Rattle.std.specs.Prelude.{◌≡◌, Ok, decimal}
use Rattle.std.proofs.Common.{sym, ◌∙◌, ap, arith}
use Rattle.std.proofs.lemmas.Bool.{iff_false}
use Rattle.std.proofs.lemmas.Fmt.{parse-decimal}
use Rattle.canvas_folder.proofs.names.number_of.Goals as goal

pub returns-in_default-clause-each : goal.returns-in_default-clause-each
returns-in_default-clause-each c = λ number above within is.
    let read : c.parse.result ≡ Ok number = parse-decimal 32 number c.args.name.now c.parse.result within (omega arith) is c.parse.ensures.value.0 in
    cc (read, c.in_default.is)

pub returns-then-number-eq0-clause-each : goal.returns-then-number-eq0-clause-each
returns-then-number-eq0-clause-each c = λ number above within is.
    let read : c.parse.result ≡ Ok number = parse-decimal 32 number c.args.name.now c.parse.result within (omega arith) is c.parse.ensures.value.0 in
    let same : c.in-Ok.number ≡ number = cc (read, c.in-Ok.is) in
    absurd (omega (arith, same, c.if-number-eq0.true))

pub returns-then-is_text_of-clause-each : goal.returns-then-is_text_of-clause-each
returns-then-is_text_of-clause-each c = λ number above within is.
    let read : c.parse.result ≡ Ok number = parse-decimal 32 number c.args.name.now c.parse.result within (omega arith) is c.parse.ensures.value.0 in
    cc (read, c.in-Ok.is)

pub returns-else-is_text_of-clause-each : goal.returns-else-is_text_of-clause-each
returns-else-is_text_of-clause-each c = λ number above within is.
    let read : c.parse.result ≡ Ok number = parse-decimal 32 number c.args.name.now c.parse.result within (omega arith) is c.parse.ensures.value.0 in
    let same : c.in-Ok.number ≡ number = cc (read, c.in-Ok.is) in
    absurd (iff_false c.is_text_of.ensures c.if-is_text_of.false (is ∙ ap decimal (sym same)))
