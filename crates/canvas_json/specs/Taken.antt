-- Which tokens serde_json takes: each number is in range, and brackets nest no deeper than they may.
use Rattle.std.specs.Prelude.{ℕ, ◌+◌, ◌-◌, nat_lt, Bool, true, false, List, [], ◌∷◌, Option, Some, None, is_some}
use Rattle.std.specs.Option.{option_map_or}
use Rattle.json.specs.Token.{Token}
use Rattle.serde_json.specs.Read.{number_of, max_depth}

abbrev pub only_if : Bool → ℕ → Option ℕ
only_if true depth = Some depth
only_if false depth = None

-- how many brackets are open after the token, where `depth` are before it, if serde_json takes it
abbrev pub depth_after : ℕ → Token → Option ℕ
depth_after depth Token.begin_object = only_if (nat_lt depth max_depth) (depth + 1)
depth_after depth Token.end_object = Some (depth - 1)
depth_after depth Token.begin_array = only_if (nat_lt depth max_depth) (depth + 1)
depth_after depth Token.end_array = Some (depth - 1)
depth_after depth (Token.key s) = Some depth
depth_after depth (Token.string s) = Some depth
depth_after depth (Token.number s) = only_if (is_some (number_of s)) depth
depth_after depth (Token.boolean b) = Some depth
depth_after depth Token.null = Some depth
depth_after depth Token.bad = Some depth

-- serde_json takes each of the tokens
unfoldable pub are_taken : ℕ → List Token → Bool
are_taken depth [] = true
are_taken depth (t ∷ ts) = option_map_or (λ after. are_taken after ts) (depth_after depth t) false
