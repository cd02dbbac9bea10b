-- Members that a request, or an object inside it, does not have.
use Rattle.std.specs.Prelude.{ℕ, ◌||◌, Bool, false, List, [], ◌∷◌, codes, is_some, if◌then◌else◌}
use Rattle.std.specs.Option.{option_map_or}
use Rattle.serde_json.specs.Data.{Data}
use Rattle.serde_json.specs.Find.{get, as_str}
use Rattle.canvas_json.specs.Json.{required, has_others}
use Rattle.canvas_json.specs.Poses.{pose_members}
use Rattle.canvas_json.specs.Shapes.{shape_members}
use Rattle.canvas_wire.specs.declared.verb.Verb.{Verb}
use Rattle.canvas_wire.specs.declared.verb.Verb.TheVariants.{Create, Move, Pose, Reshape, Show, Delete, Respace, Tile, Patch, Point, Export}
use Rattle.canvas_wire.specs.Verbs.{verb_members}

-- a pose has no other members than these
abbrev pub pose_has_extra : Data → Bool
pose_has_extra d = has_others pose_members d

-- a shape has those of its kind
abbrev pub shape_has_extra : Data → Bool
shape_has_extra d = option_map_or (λ kind. has_others (shape_members kind) d) (required as_str (codes "kind") d) false

-- a spot has `over`, or else `at`, and never both
abbrev pub spot_has_extra : Data → Bool
spot_has_extra d = has_others (if is_some (get (codes "over") d) then codes "over" ∷ [] else codes "at" ∷ []) d

-- the object at this name has an extra member
abbrev pub inside : (Data → Bool) → List ℕ → Data → Bool
inside extra name d = option_map_or extra (get name d) false

-- an object that belongs into a request of the verb has an extra member
abbrev pub inside_of : Verb → Data → Bool
inside_of Create d = inside pose_has_extra (codes "pose") d || inside shape_has_extra (codes "shape") d || inside spot_has_extra (codes "spot") d
inside_of Move d = inside spot_has_extra (codes "spot") d
inside_of Pose d = inside pose_has_extra (codes "pose") d
inside_of Reshape d = inside shape_has_extra (codes "shape") d
inside_of Show d = false
inside_of Delete d = false
inside_of Respace d = false
inside_of Tile d = false
inside_of Patch d = false
inside_of Point d = false
inside_of Export d = false

-- a request of the verb has an extra member, or an object inside it has one
unfoldable pub has_extra : Verb → Data → Bool
has_extra verb d =
    has_others (verb_members verb) d
    || inside pose_has_extra (codes "pose") d
    || inside shape_has_extra (codes "shape") d
    || inside spot_has_extra (codes "spot") d
