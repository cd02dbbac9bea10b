use Rattle.std.proofs.Common.{sym, ◌∙◌}
use Rattle.canvas_doors.proofs.Begun.{line_len-behind, line_len-none, told_early, untold}
use Rattle.canvas_doors.proofs.first_line.told_by.Goals as goal

pub told_by_line-requires : goal.told_by_line-requires
told_by_line-requires c = line_len-behind c.args.first.now c.split_at.result.1.now c.args.seen c.line_len.result c.requires.within c.requires.unended c.split_at.ensures.back c.line_len.ensures.counts c.if-line_len-more.true

pub returns-then-begins_foreign-clause-told : goal.returns-then-begins_foreign-clause-told
returns-then-begins_foreign-clause-told c rest =
    told_early c.args.first.now rest (line_len-none c.args.first.now c.split_at.result.1.now c.args.seen c.line_len.result c.requires.within c.requires.unended c.split_at.ensures.back c.line_len.ensures.counts c.line_len.ensures.within c.if-line_len-more.false) (sym c.begins_foreign.ensures ∙ c.if-begins_foreign.true)

pub returns-clause-unended : goal.returns-clause-unended
returns-clause-unended c = line_len-none c.args.first.now c.split_at.result.1.now c.args.seen c.line_len.result c.requires.within c.requires.unended c.split_at.ensures.back c.line_len.ensures.counts c.line_len.ensures.within c.if-line_len-more.false

pub returns-clause-untold : goal.returns-clause-untold
returns-clause-untold c = untold c.args.first.now (line_len-none c.args.first.now c.split_at.result.1.now c.args.seen c.line_len.result c.requires.within c.requires.unended c.split_at.ensures.back c.line_len.ensures.counts c.line_len.ensures.within c.if-line_len-more.false) (sym c.begins_foreign.ensures ∙ c.if-begins_foreign.false)
