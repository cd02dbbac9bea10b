use Rattle.std.proofs.Common.{◌≡◌, ◌∙◌, List, IfOk, subst}
use Rattle.canvas_record.specs.declared.records.Record.{Record}
use Rattle.canvas_doc.proofs.deleting.Freed.{levels-more, none-below}
use Rattle.canvas_doc.proofs.deletion.+without_below.Goals as goal

pub returns-then-levels-eq0-clause-records : goal.returns-then-levels-eq0-clause-records
returns-then-levels-eq0-clause-records t c = none-below c.args.levels c.args.whole.now.shapes c.args.lists.records c.args.level.now c.if-levels-eq0.true

pub returns-clause-records : goal.returns-clause-records
returns-clause-records t c =
    subst (λ (l : List Record). IfOk c.without_below.result (λ after. after.records ≡ l))
    (levels-more c.args.levels c.args.whole.now.shapes c.args.lists.records c.in_ok-left.left.records c.args.level.now c.deref.result.now c.if-levels-eq0.false (c.deref.ensures.value ∙ c.in_ok-next.ensures) c.in_ok-left.ensures.records)
    c.without_below.ensures.records
