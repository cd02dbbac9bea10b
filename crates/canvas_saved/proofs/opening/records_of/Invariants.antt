use Rattle.std.proofs.Common.{◌≡◌, ◌+◌, length}
use Rattle.serde_json.specs.Events.{items_len}
use Rattle.canvas_json.specs.Given.{items_view}
use Rattle.canvas_saved.specs.Opened.{records_from}
use Rattle.canvas_saved.proofs.Elements.{after}
use Rattle.canvas_saved.proofs.opening.records_of.Given as goal

abbrev pub invariant-loop-element : goal.invariant-loop-element
invariant-loop-element l = record {
  count : length l.records.items + items_len (items_view l.left) ≡ items_len (items_view l.fn.shapes.items);
  rest : after l.records.items (records_from l.head (length l.records.items) (items_view l.left)) ≡ records_from l.head 0 (items_view l.fn.shapes.items);
}

abbrev pub decreases-loop-element : goal.decreases-loop-element
decreases-loop-element l = length l.left
