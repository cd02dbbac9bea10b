-- Records as they are read: an object with exactly the members of a record.
use Rattle.std.specs.Prelude.{ℕ, List, [], ◌∷◌, codes, Option, Some, None, option_and_then, if◌then◌else◌}
use Rattle.serde_json.specs.Data.{Data}
use Rattle.serde_json.specs.Find.{as_bool, as_str}
use Rattle.canvas_plane.specs.declared.Pose.{Pose}
use Rattle.canvas_shape.specs.declared.Kind.{Kind}
use Rattle.canvas_record.specs.declared.records.Place.{Place}
use Rattle.canvas_record.specs.declared.records.Record.{Record}
use Rattle.canvas_record.specs.Restored.{is_record}
use Rattle.canvas_json.specs.Json.{u32_of, required, has_others, has_exactly, ◌>>=◌}
use Rattle.canvas_json.specs.Places.{parent_of, key_named}
use Rattle.canvas_json.specs.Poses.{pose_members, pose_of}
use Rattle.canvas_json.specs.Shapes.{shape_members, shape_of}
use Rattle.canvas_saved.specs.declared.formats.Format.{Format}
use Rattle.canvas_saved.specs.declared.formats.Format.TheVariants.{One, Two}
use Rattle.canvas_saved.specs.declared.formats.Head.{Head}

-- the shape of an object with exactly the members of its kind
unfoldable pub whole_shape_of : Data → Option Kind
whole_shape_of d = do
  kind ← required as_str (codes "kind") d
  if has_exactly (shape_members kind) d then shape_of d else None

-- the pose of an object with exactly the members of a pose
unfoldable pub whole_pose_of : Data → Option Pose
whole_pose_of d = if has_exactly pose_members d then pose_of d else None

unfoldable pub index_of : Data → Option (List ℕ)
index_of d = option_and_then key_named (as_str d)

-- the place that an index and a parent make
unfoldable pub place_in : Data → Option Place
place_in d = do
  index ← required index_of (codes "index") d
  parent ← required parent_of (codes "parent") d
  Some (record { parent = parent; index = index })

abbrev pub place_members : List (List ℕ)
place_members = codes "index" ∷ codes "parent" ∷ []

-- the place of an object
unfoldable pub place_of : Data → Option Place
place_of d = if has_others place_members d then None else place_in d

-- the place of a record: in format 1 two members of the record, in format 2 one
unfoldable pub place_at : Format → Data → Option Place
place_at One d = place_in d
place_at Two d = required place_of (codes "place") d

-- the members of a record
abbrev pub record_members : Format → List (List ℕ)
record_members One = codes "hidden" ∷ codes "id" ∷ codes "index" ∷ codes "parent" ∷ codes "pose" ∷ codes "shape" ∷ []
record_members Two = codes "hidden" ∷ codes "id" ∷ codes "place" ∷ codes "pose" ∷ codes "shape" ∷ []

-- the record that the members of an object make
unfoldable pub record_in : Format → Data → Option Record
record_in format d = do
  kind ← required whole_shape_of (codes "shape") d
  hidden ← required as_bool (codes "hidden") d
  id ← required u32_of (codes "id") d
  place ← place_at format d
  pose ← required whole_pose_of (codes "pose") d
  Some (record { id = id; kind = kind; place = place; pose = pose; hidden = hidden })

-- the record of an object
unfoldable pub record_of : Format → Data → Option Record
record_of format d = if has_others (record_members format) d then None else record_in format d

-- the record, if its id is below the next one, and its pose and kind are within their limits
abbrev pub if_within : ℕ → Record → Option Record
if_within next r = if is_record next r then Some r else None

-- the record of an element, within the limits of a record
unfoldable pub element_of : Head → Data → Option Record
element_of head d = option_and_then (if_within head.next) (record_of head.format d)
