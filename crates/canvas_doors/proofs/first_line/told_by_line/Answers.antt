use Rattle.std.proofs.Common.{sym, ◌∙◌}
use Rattle.canvas_doors.proofs.Begun.{told_whole}
use Rattle.canvas_doors.proofs.first_line.told_by_line.Goals as goal

pub returns-then-is_foreign : goal.returns-then-is_foreign
returns-then-is_foreign c rest = told_whole c.args.first.now rest c.requires ∙ sym c.is_foreign.ensures ∙ c.if-is_foreign.true

pub returns-else-is_foreign : goal.returns-else-is_foreign
returns-else-is_foreign c rest = told_whole c.args.first.now rest c.requires ∙ sym c.is_foreign.ensures ∙ c.if-is_foreign.false
