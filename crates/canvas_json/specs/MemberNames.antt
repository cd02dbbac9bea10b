-- The names of an object's members, in its text and in its data.
use Rattle.std.specs.Prelude.{◌≡◌, ℕ, Bool, List, [], ◌∷◌, Option, Some, None}
use Rattle.std.specs.List.{list_any}
use Rattle.json.specs.Find.{InMembers}
use Rattle.json.specs.Json as json
use Rattle.json.specs.Token.{Token}
use Rattle.serde_json.specs.Data.{Members}
use Rattle.canvas_json.specs.Json.{names_of}

-- the names as the text has them, each as often as it comes
abbrev pub given_names : json.Members → List (List ℕ)
given_names json.no_members = []
given_names (json.member name j rest) = name ∷ given_names rest

-- both have the same names
abbrev pub HaveSameNames : json.Members → Members → Type 0
HaveSameNames given ms = (test : List ℕ → Bool) → list_any test (given_names given) ≡ list_any test (names_of ms)

-- the tokens begin with the members of the object, if there is one
abbrev pub HoldsNames : Option (List Token) → Option Members → Type 0
HoldsNames None o = o ≡ None
HoldsNames (Some ts) o = (given : json.Members) × (ms : Members) × (o ≡ Some ms) × InMembers ts given × HaveSameNames given ms
