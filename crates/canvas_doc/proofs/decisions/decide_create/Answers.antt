use Rattle.std.proofs.Common.{sym}
use Rattle.canvas_doc.proofs.editing.Created.{created-decided}
use Rattle.canvas_doc.proofs.decisions.decide_create.Goals as goal

pub returns-clause-value : goal.returns-clause-value
returns-clause-value c =
    created-decided (record { records = c.document.inside.records; next = c.document.inside.next }) c.args.document.now c.args.kind.now c.in_ok-try_clone.field-0 c.args.pose.now c.args.hidden c.args.parent c.args.spot.now c.in_ok-index.index
    c.in_ok-index.ensures.value c.in_ok-try_clone.ensures.value c.document.view_is

pub returns-clause-exact : goal.returns-clause-exact
returns-clause-exact c = λ _.
    sym (created-decided (record { records = c.document.inside.records; next = c.document.inside.next }) c.args.document.now c.args.kind.now c.in_ok-try_clone.field-0 c.args.pose.now c.args.hidden c.args.parent c.args.spot.now c.in_ok-index.index
    c.in_ok-index.ensures.value c.in_ok-try_clone.ensures.value c.document.view_is)
