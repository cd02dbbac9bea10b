use Rattle.std.proofs.Common.{◌≡◌, ◌≤◌, ◌<◌, ◌-◌, ◌*◌, length, get_or}
use Rattle.std.specs.List.Sorted.{IsNonDecreasingBy}
use Rattle.canvas_list_tests.specs.declared.numbers.Number.{Number}
use Rattle.canvas_list_tests.proofs.numbers.evens.Given as goal

abbrev pub invariant-loop-at : goal.invariant-loop-at
invariant-loop-at l = record {
  len : length l.items.items ≡ l.at;
  sorted : IsNonDecreasingBy (λ (number : Number). number.value) l.items.items;
  last : (d : Number) → 0 < length l.items.items → (get_or l.items.items (length l.items.items - 1) d).value ≤ 2 * l.at;
}
