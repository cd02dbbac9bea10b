-- What a request of each verb asks for, if all its members can be read.
use Rattle.std.specs.Prelude.{false, codes, Option, Some}
use Rattle.serde_json.specs.Data.{Data}
use Rattle.serde_json.specs.Find.{as_bool}
use Rattle.canvas_record.specs.declared.records.Parent.TheVariants.{Page}
use Rattle.canvas_record.specs.declared.edits.Spot.TheVariants.{Front}
use Rattle.canvas_record.specs.declared.edits.Edit.TheVariants as edit
use Rattle.canvas_wire.specs.declared.request.Request.{Request}
use Rattle.canvas_wire.specs.declared.request.Request.TheVariants as request
use Rattle.canvas_wire.specs.declared.verb.Verb.{Verb}
use Rattle.canvas_wire.specs.declared.verb.Verb.TheVariants.{Create, Move, Pose, Reshape, Show, Delete, Respace, Tile, Patch, Point, Export}
use Rattle.canvas_json.specs.Json.{i32_of, u32_of, u8_of, required, optional, ◌>>=◌}
use Rattle.canvas_json.specs.Places.{parent_of}
use Rattle.canvas_json.specs.Poses.{pose_of, still}
use Rattle.canvas_json.specs.Shapes.{shape_of}
use Rattle.canvas_wire.specs.Spots.{spot_of}

-- what a request of the verb asks for
unfoldable pub asked : Verb → Data → Option Request
asked Create d = do
  kind ← required shape_of (codes "shape") d
  pose ← optional pose_of still (codes "pose") d
  hidden ← optional as_bool false (codes "hidden") d
  parent ← optional parent_of Page (codes "parent") d
  spot ← optional spot_of Front (codes "spot") d
  Some (request.Edit (edit.Create kind pose hidden parent spot))
asked Move d = do
  id ← required u32_of (codes "id") d
  parent ← required parent_of (codes "parent") d
  spot ← required spot_of (codes "spot") d
  Some (request.Edit (edit.Move id parent spot))
asked Pose d = do
  id ← required u32_of (codes "id") d
  pose ← required pose_of (codes "pose") d
  Some (request.Edit (edit.Pose id pose))
asked Reshape d = do
  id ← required u32_of (codes "id") d
  kind ← required shape_of (codes "shape") d
  Some (request.Edit (edit.Reshape id kind))
asked Show d = do
  id ← required u32_of (codes "id") d
  hidden ← required as_bool (codes "hidden") d
  Some (request.Edit (edit.Show id hidden))
asked Delete d = do
  id ← required u32_of (codes "id") d
  Some (request.Edit (edit.Delete id))
asked Respace d = do
  parent ← required parent_of (codes "parent") d
  Some (request.Edit (edit.Respace parent))
asked Tile d = do
  col ← required i32_of (codes "col") d
  row ← required i32_of (codes "row") d
  level ← optional u8_of 0 (codes "level") d
  Some (request.Tile level col row)
asked Patch d = do
  x ← required i32_of (codes "x") d
  y ← required i32_of (codes "y") d
  w ← required u32_of (codes "w") d
  h ← required u32_of (codes "h") d
  level ← optional u8_of 0 (codes "level") d
  Some (request.Patch level x y w h)
asked Point d = do
  x ← required i32_of (codes "x") d
  y ← required i32_of (codes "y") d
  Some (request.Point x y)
asked Export d = Some request.Export
