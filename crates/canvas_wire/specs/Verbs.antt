-- The verbs of requests: their names, and the members that a request of each may have.
use Rattle.std.specs.Prelude.{ℕ, List, [], ◌∷◌, codes, Option, Some, None, if◌then◌else◌}
use Rattle.std.specs.Str.{bytes_eq}
use Rattle.canvas_wire.specs.declared.verb.Verb.{Verb}
use Rattle.canvas_wire.specs.declared.verb.Verb.TheVariants.{Create, Move, Pose, Reshape, Show, Delete, Respace, Tile, Patch, Point, Export}

-- the verb of a name
unfoldable pub verb_named : List ℕ → Option Verb
verb_named name =
    if bytes_eq name (codes "create") then Some Create
    else (if bytes_eq name (codes "move") then Some Move
    else (if bytes_eq name (codes "pose") then Some Pose
    else (if bytes_eq name (codes "reshape") then Some Reshape
    else (if bytes_eq name (codes "show") then Some Show
    else (if bytes_eq name (codes "delete") then Some Delete
    else (if bytes_eq name (codes "respace") then Some Respace
    else (if bytes_eq name (codes "tile") then Some Tile
    else (if bytes_eq name (codes "patch") then Some Patch
    else (if bytes_eq name (codes "point") then Some Point
    else (if bytes_eq name (codes "export") then Some Export
    else None))))))))))

-- the names of the members that a request of the verb may have
unfoldable pub verb_members : Verb → List (List ℕ)
verb_members Create = codes "verb" ∷ codes "shape" ∷ codes "pose" ∷ codes "hidden" ∷ codes "parent" ∷ codes "spot" ∷ []
verb_members Move = codes "verb" ∷ codes "id" ∷ codes "parent" ∷ codes "spot" ∷ []
verb_members Pose = codes "verb" ∷ codes "id" ∷ codes "pose" ∷ []
verb_members Reshape = codes "verb" ∷ codes "id" ∷ codes "shape" ∷ []
verb_members Show = codes "verb" ∷ codes "id" ∷ codes "hidden" ∷ []
verb_members Delete = codes "verb" ∷ codes "id" ∷ []
verb_members Respace = codes "verb" ∷ codes "parent" ∷ []
verb_members Tile = codes "verb" ∷ codes "col" ∷ codes "row" ∷ codes "level" ∷ []
verb_members Patch = codes "verb" ∷ codes "x" ∷ codes "y" ∷ codes "w" ∷ codes "h" ∷ codes "level" ∷ []
verb_members Point = codes "verb" ∷ codes "x" ∷ codes "y" ∷ []
verb_members Export = codes "verb" ∷ []
