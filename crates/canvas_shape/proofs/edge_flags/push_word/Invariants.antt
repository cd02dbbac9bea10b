use Rattle.std.proofs.Common.{◌≡◌, ℕ, ◌≤◌, ◌-◌, List, ◌++◌, length, take}
use Rattle.canvas_shape.specs.Cuts.{spans_of}
use Rattle.canvas_shape.specs.Flags.{cuts_behind}
use Rattle.canvas_shape.specs.Words.{has}
use Rattle.canvas_shape.proofs.edge_flags.push_word.Given as goal

abbrev pub invariant-loop-word : goal.invariant-loop-word
invariant-loop-word l = record {
  placed : (rest : List ℕ) → l.out.items ++ spans_of l.row.left l.inside l.place (cuts_behind l.width (λ j. has l.word (j - l.base)) l.base 64 ++ rest) ≡ l.initial.out.items ++ spans_of l.row.left l.initial.inside l.initial.place (cuts_behind l.width (λ j. has l.initial.word (j - l.base)) l.base 64 ++ rest);
  place : l.place ≤ l.width;
  more : length l.initial.out.items ≤ length l.out.items;
  kept : take (length l.initial.out.items) l.out.items ≡ l.initial.out.items;
}

abbrev pub decreases-loop-word : goal.decreases-loop-word
decreases-loop-word l = length (cuts_behind l.width (λ j. has l.word (j - l.base)) l.base 64)
