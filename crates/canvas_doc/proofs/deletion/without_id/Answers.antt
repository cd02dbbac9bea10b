use Rattle.std.proofs.Common.{◌∙◌, sym}
use Rattle.canvas_doc.proofs.deleting.Freed.{none-gone, one-gone}
use Rattle.canvas_doc.proofs.deletion.without_id.Goals as goal

pub returns : goal.returns
returns c = c.in_ok-change.ensures.made ∙ sym (one-gone c.args.id c.in-Some.at c.args.records c.requires c.in-Some.ensures)

pub returns-in_default : goal.returns-in_default
returns-in_default c = sym (none-gone c.args.id c.args.records c.in_default.ensures)
