use Rattle.std.proofs.Common.{◌≡◌, true, false, Some, Err, sym, ap, ◌∙◌}
use Rattle.canvas_json.specs.Taken.{are_taken}
use Rattle.canvas_json.proofs.Judged.{read-no_document, read-refused, read-tape}
use Rattle.canvas_json.proofs.Parts.{view_is}
use Rattle.canvas_json.proofs.tape.tape_of_text.Goals as goal

pub returns-in-Err-Invalid-clause-value : goal.returns-in-Err-Invalid-clause-value
returns-in-Err-Invalid-clause-value c = read-no_document c.args.text.now (c.parse.ensures.invalid (c.in-Err-Invalid.is ∙ ap Err c.in-Err-Invalid.field-0-is))

pub returns-then-are_taken-clause-value : goal.returns-then-are_taken-clause-value
returns-then-are_taken-clause-value c =
    let taken : are_taken 0 c.in-Ok.tape ≡ true = sym (c.if-are_taken.ensures ∙ ap (are_taken 0) c.nodes.ensures.tokens) in
    let ok = c.in-Ok.ensures.ok in
    let given = read-tape c.args.text.now c.in-Ok.tape ok.0 ok.1 taken in
    given.1 ∙ ap Some (sym (view_is c.in-Ok.tape given.0 given.2))

pub returns-then-are_taken-clause-begins : goal.returns-then-are_taken-clause-begins
returns-then-are_taken-clause-begins c =
    let taken : are_taken 0 c.in-Ok.tape ≡ true = sym (c.if-are_taken.ensures ∙ ap (are_taken 0) c.nodes.ensures.tokens) in
    let ok = c.in-Ok.ensures.ok in
    let given = read-tape c.args.text.now c.in-Ok.tape ok.0 ok.1 taken in
    (given.0, given.2)

pub returns-clause-value : goal.returns-clause-value
returns-clause-value c =
    let refused : are_taken 0 c.in-Ok.tape ≡ false = sym (c.if-are_taken.ensures ∙ ap (are_taken 0) c.nodes.ensures.tokens) in
    read-refused c.args.text.now (ap (are_taken 0) (sym c.in-Ok.ensures.ok.0) ∙ refused)
