use Rattle.std.proofs.Common.{◌≡◌, ◌++◌, sym, subst, ap, ◌∙◌}
use Rattle.canvas_wire.specs.EditTexts.{edit_text, IsOneLine}
use Rattle.canvas_wire.specs.Requests.{request_of}
use Rattle.canvas_wire.proofs.EditReads.{text-read, text-one_line, accepted-within}
use Rattle.canvas_wire.proofs.writing.write_edit.Goals as goal

pub returns-clause-one_line : goal.returns-clause-one_line
returns-clause-one_line c =
    let is : c.push_edit.new.line.items ≡ edit_text c.args.edit.now = c.in_ok-push_edit.ensures.text ∙ ap (λ l. l ++ edit_text c.args.edit.now) c.in_ok-line.ensures.items in
    subst IsOneLine (sym is) (text-one_line c.args.edit.now c.in_ok-push_edit.ensures.fits)

pub returns-clause-reads : goal.returns-clause-reads
returns-clause-reads c =
    let is : c.push_edit.new.line.items ≡ edit_text c.args.edit.now = c.in_ok-push_edit.ensures.text ∙ ap (λ l. l ++ edit_text c.args.edit.now) c.in_ok-line.ensures.items in
    λ within. ap request_of is ∙ text-read c.args.edit.now c.in_ok-push_edit.ensures.fits within

pub returns-clause-accepted : goal.returns-clause-accepted
returns-clause-accepted c =
    let is : c.push_edit.new.line.items ≡ edit_text c.args.edit.now = c.in_ok-push_edit.ensures.text ∙ ap (λ l. l ++ edit_text c.args.edit.now) c.in_ok-line.ensures.items in
    λ document change accepted. ap request_of is ∙ text-read c.args.edit.now c.in_ok-push_edit.ensures.fits (accepted-within c.args.edit.now document change accepted)
