use Rattle.std.proofs.Common.{sym, subst}
use Rattle.std.proofs.lemmas.Str.{is_utf8-from_IsUtf8}
use Rattle.canvas_json.specs.Faults.{GivesSeen}
use Rattle.canvas_json.specs.Given.{view}
use Rattle.canvas_json.proofs.Json.{json_text, json_none, json_empty}
use Rattle.canvas_json.proofs.tape.tape_of.Goals as goal

pub returns-then-is_empty-clause-value : goal.returns-then-is_empty-clause-value
returns-then-is_empty-clause-value c = json_empty c.args.text.now (sym c.if-is_empty.ensures)

pub returns-in-Ok-clause-value : goal.returns-in-Ok-clause-value
returns-in-Ok-clause-value c =
    let json = json_text c.args.text.now c.in-Ok.text.now c.in-Ok.ensures.cases.0 c.in-Ok.ensures.cases.1 in
    subst (GivesSeen view c.tape_of_text.result) (sym json) c.tape_of_text.ensures.value

pub returns-in-Err-clause-value : goal.returns-in-Err-clause-value
returns-in-Err-clause-value c = json_none c.args.text.now (λ text. absurd (c.in-Err.ensures.cases.0 text))

pub returns-in-Ok-clause-text : goal.returns-in-Ok-clause-text
returns-in-Ok-clause-text c = λ no. absurd (cc (no, is_utf8-from_IsUtf8 c.args.text.now c.in-Ok.ensures.cases.1))
