use Rattle.std.proofs.Common.{subst}
use Rattle.std.specs.List.{AllByRecursion}
use Rattle.canvas_journal.specs.Lines.{IsLine}
use Rattle.canvas_journal.proofs.Texts.{are_lines}
use Rattle.canvas_journal.proofs.batch.Batch.len.Goals as goal

pub returns-clause-lines : goal.returns-clause-lines
returns-clause-lines c = subst (AllByRecursion IsLine) c.self.view_is (are_lines c.self.inside.bytes.items)
