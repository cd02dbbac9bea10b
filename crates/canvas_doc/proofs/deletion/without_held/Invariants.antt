use Rattle.std.proofs.Common.{◌≡◌, filter, not, take}
use Rattle.canvas_doc.specs.Deletion.{is_held, AreLists}
use Rattle.canvas_doc.proofs.deletion.without_held.Given as goal

abbrev pub invariant-loop-holder : goal.invariant-loop-holder
invariant-loop-holder l = record {
  lists : AreLists l.left.records l.left.order.shapes l.left.order.bounds;
  records : l.left.records ≡ filter (λ r. not (is_held (take l.holder-index l.holders) r)) l.fn.lists.records;
}
