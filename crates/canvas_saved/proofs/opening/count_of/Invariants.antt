use Rattle.std.proofs.Common.{◌≡◌, ◌+◌, ◌≤◌, length}
use Rattle.serde_json.specs.Events.{items_len}
use Rattle.canvas_json.specs.Given.{items_view}
use Rattle.canvas_saved.proofs.opening.count_of.Given as goal

abbrev pub invariant-loop-count : goal.invariant-loop-count
invariant-loop-count l = record {
  count : l.count + items_len (items_view l.left) ≡ items_len (items_view l.fn.items);
  few : l.count ≤ l.most;
}

abbrev pub decreases-loop-count : goal.decreases-loop-count
decreases-loop-count l = length l.left
