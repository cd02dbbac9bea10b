-- What a line of a session asks for: names, and places among counts.
use Rattle.std.specs.Prelude.{ℕ, List, [], ◌∷◌, codes}
use Rattle.canvas_status.specs.declared.verb.Verb.{Verb}
use Rattle.canvas_status.specs.declared.verb.Verb.TheVariants.{Create, Move, Pose, Reshape, Show, Delete, Respace, Tile, Patch, Point, Export, Unread}

-- all verbs, by their places
abbrev pub verbs : List Verb
verbs = Create ∷ Move ∷ Pose ∷ Reshape ∷ Show ∷ Delete ∷ Respace ∷ Tile ∷ Patch ∷ Point ∷ Export ∷ Unread ∷ []

-- the name of a verb, as requests write it; a line that is no request is unread
unfoldable pub verb_name : Verb → List ℕ
verb_name Create = codes "create"
verb_name Move = codes "move"
verb_name Pose = codes "pose"
verb_name Reshape = codes "reshape"
verb_name Show = codes "show"
verb_name Delete = codes "delete"
verb_name Respace = codes "respace"
verb_name Tile = codes "tile"
verb_name Patch = codes "patch"
verb_name Point = codes "point"
verb_name Export = codes "export"
verb_name Unread = codes "unread"

-- the place of a verb among counts
abbrev pub place_of : Verb → ℕ
place_of Create = 0
place_of Move = 1
place_of Pose = 2
place_of Reshape = 3
place_of Show = 4
place_of Delete = 5
place_of Respace = 6
place_of Tile = 7
place_of Patch = 8
place_of Point = 9
place_of Export = 10
place_of Unread = 11
