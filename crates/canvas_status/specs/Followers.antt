-- How far the followers of a feed are. At the place of a follower stands one more than the last version that was sent to it, and 0 where nobody follows.
use Rattle.std.specs.Prelude.{ℕ, zero, suc, ◌-◌, ◌==◌, List, length, max, not}
use Rattle.std.specs.List.{filter, fold}

-- how many follow
abbrev pub followers_at : List ℕ → ℕ
followers_at places = length (filter (λ place. not (place == 0)) places)

-- how many of the kept versions were not sent to the follower of a place
abbrev pub behind : ℕ → ℕ → ℕ
behind kept zero = 0
behind kept (suc sent) = kept - sent

-- how many were not sent to the one that is farthest behind
abbrev pub lag_at : ℕ → List ℕ → ℕ
lag_at kept places = fold (λ most place. max most (behind kept place)) 0 places
