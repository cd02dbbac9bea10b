use Rattle.std.proofs.Common.{◌≡◌, ◌++◌, take}
use Rattle.canvas_paint.specs.FreeRows.{rest_of, taken_of}
use Rattle.canvas_paint.proofs.free_row.split.Given as goal

abbrev pub invariant-loop-part : goal.invariant-loop-part
invariant-loop-part l = record {
  rest : l.rest.items ≡ rest_of l.span (take l.part-index l.free);
  taken : l.out.items ≡ l.initial.out.items ++ taken_of l.span (take l.part-index l.free);
}
