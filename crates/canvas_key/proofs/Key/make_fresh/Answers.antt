use Rattle.std.proofs.Common.{◌≡◌, ℕ, Some, List, pos, ap, sym}
use Rattle.std.specs.Prelude.{[], unwrap_or}
use Rattle.canvas_key.specs.Rank.{part_above, part_of_rank, fresh_key}
use Rattle.canvas_key.proofs.FreshKeys.{rank-is-key}
use Rattle.canvas_key.proofs.Key.make_fresh.Goals as goal

ranked : (n : ℕ) (xs : List ℕ) → part_above 25 1 n ≡ Some xs → part_of_rank (pos n) ≡ Some xs
unfolding part_of_rank
ranked n xs h = h

named : (n : ℕ) (xs : List ℕ) → part_above 25 1 n ≡ Some xs → xs ≡ fresh_key n
unfolding fresh_key
named n xs h = ap (λ o. unwrap_or o []) (sym (ranked n xs h))

pub invariant_of-self : goal.invariant_of-self
invariant_of-self c = rank-is-key _ _ (ranked _ _ c.write_part.ensures)

pub returns : goal.returns
returns c = named _ _ c.write_part.ensures
