use Rattle.std.proofs.Common.{◌≡◌, ◌++◌}
use Rattle.canvas_status.specs.Page.{refusals_below}
use Rattle.canvas_status.proofs.page.write_refusals.Given as goal

abbrev pub invariant-loop-code : goal.invariant-loop-code
invariant-loop-code l = l.out.items ≡ l.initial.out.items ++ refusals_below l.name l.refusals l.code
