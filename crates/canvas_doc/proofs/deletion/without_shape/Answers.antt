use Rattle.std.proofs.Common.{◌≡◌, IfOk, List, subst, sym}
use Rattle.canvas_record.specs.declared.records.Record.{Record}
use Rattle.canvas_doc.proofs.deleting.Freed.{none-gone, one-gone}
use Rattle.canvas_doc.proofs.deletion.without_shape.Goals as goal

pub returns-in-Some-clause-records : goal.returns-in-Some-clause-records
returns-in-Some-clause-records c =
    subst (λ (l : List Record). IfOk c.without_at.result (λ after. after.records ≡ l)) (sym (one-gone c.args.id c.in-Some.at c.args.lists.records c.requires.rising c.in-Some.ensures)) c.without_at.ensures.records

pub returns-in-None-clause-records : goal.returns-in-None-clause-records
returns-in-None-clause-records c = sym (none-gone c.args.id c.args.lists.records c.in-None.ensures)
