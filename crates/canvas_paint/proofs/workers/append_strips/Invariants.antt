use Rattle.std.proofs.Common.{◌≡◌, ◌++◌}
use Rattle.canvas_paint.specs.Items.{last_colour}
use Rattle.canvas_paint.specs.Pictures.{rows_of}
use Rattle.canvas_paint.specs.Strips.{strip_start}
use Rattle.canvas_paint.proofs.workers.append_strips.Given as goal

abbrev pub invariant-loop-strip : goal.invariant-loop-strip
invariant-loop-strip g l = l.out.items ≡ l.initial.out.items ++ rows_of (last_colour l.items) l.window 0 (strip_start l.window.h l.strip-index l.fn.n)
