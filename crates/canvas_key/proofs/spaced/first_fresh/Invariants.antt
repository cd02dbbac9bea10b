use Rattle.std.proofs.Common.{◌≡◌, ◌∷◌, replicate}
use Rattle.canvas_key.proofs.spaced.first_fresh.Given as goal

abbrev pub invariant-loop : goal.invariant-loop
invariant-loop l = l.text.items ≡ 97 ∷ replicate l.counter 48
