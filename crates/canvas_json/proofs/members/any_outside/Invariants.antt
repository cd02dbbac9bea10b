use Rattle.std.proofs.Common.{◌≡◌, not, length}
use Rattle.std.specs.List.{list_any}
use Rattle.std.specs.Str.{bytes_eq}
use Rattle.json.specs.Find.{InMembers}
use Rattle.json.specs.Json as json
use Rattle.canvas_json.specs.MemberNames.{given_names}
use Rattle.canvas_json.proofs.members.any_outside.Given as goal

abbrev pub invariant-loop-name : goal.invariant-loop-name
invariant-loop-name l =
    (given : json.Members) → InMembers l.fn.members given
    → (rest : json.Members) × InMembers l.left rest
    × (list_any (λ name. not (list_any (λ other. bytes_eq other.now name) l.names)) (given_names rest) ≡ list_any (λ name. not (list_any (λ other. bytes_eq other.now name) l.names)) (given_names given))

abbrev pub decreases-loop-name : goal.decreases-loop-name
decreases-loop-name l = length l.left
