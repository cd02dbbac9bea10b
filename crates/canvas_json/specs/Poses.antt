-- Poses: an object, each member of which may be left out.
use Rattle.std.specs.Prelude.{ℕ, pos, false, List, [], ◌∷◌, codes, Option, Some}
use Rattle.serde_json.specs.Data.{Data}
use Rattle.serde_json.specs.Find.{as_object, as_bool}
use Rattle.canvas_plane.specs.declared.Pose.{Pose}
use Rattle.canvas_json.specs.Json.{i32_of, u8_of, optional, ◌>>=◌}

-- the pose that moves nothing
abbrev pub still : Pose
still = record { dx = pos 0; dy = pos 0; quarter = 0; flip = false }

-- the pose of an object
unfoldable pub pose_of : Data → Option Pose
pose_of d = do
  members ← as_object d
  dx ← optional i32_of (pos 0) (codes "dx") d
  dy ← optional i32_of (pos 0) (codes "dy") d
  quarter ← optional u8_of 0 (codes "quarter") d
  flip ← optional as_bool false (codes "flip") d
  Some (record { dx = dx; dy = dy; quarter = quarter; flip = flip })

-- the members of a pose
abbrev pub pose_members : List (List ℕ)
pose_members = codes "dx" ∷ codes "dy" ∷ codes "flip" ∷ codes "quarter" ∷ []
