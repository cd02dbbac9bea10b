-- The objects of edits: the text of each is its compact text.
use Rattle.std.specs.Prelude.{codes}
use Rattle.serde_json.specs.Data.{Data, boolean, number, string, object, unsigned, no_members, member}
use Rattle.canvas_record.specs.declared.edits.Spot.{Spot}
use Rattle.canvas_record.specs.declared.edits.Spot.TheVariants.{Back, Front, Over, At}
use Rattle.canvas_record.specs.declared.edits.Edit.{Edit}
use Rattle.canvas_record.specs.declared.edits.Edit.TheVariants as edits
use Rattle.canvas_json.specs.Objects.{shape_data, pose_data, parent_data}

abbrev pub spot_data : Spot → Data
spot_data Back = string (codes "back")
spot_data Front = string (codes "front")
spot_data (Over id) = object (member (codes "over") (number (unsigned id)) no_members)
spot_data (At key) = object (member (codes "at") (string key) no_members)

-- the object that asks for an edit: shapes, poses and parents stand in it as in a saved document
abbrev pub edit_data : Edit → Data
edit_data (edits.Create kind pose hidden parent spot) =
    object (member (codes "hidden") (boolean hidden)
    (member (codes "parent") (parent_data parent)
    (member (codes "pose") (pose_data pose)
    (member (codes "shape") (shape_data kind)
    (member (codes "spot") (spot_data spot)
    (member (codes "verb") (string (codes "create")) no_members))))))
edit_data (edits.Move id parent spot) =
    object (member (codes "id") (number (unsigned id))
    (member (codes "parent") (parent_data parent)
    (member (codes "spot") (spot_data spot)
    (member (codes "verb") (string (codes "move")) no_members))))
edit_data (edits.Pose id pose) =
    object (member (codes "id") (number (unsigned id))
    (member (codes "pose") (pose_data pose)
    (member (codes "verb") (string (codes "pose")) no_members)))
edit_data (edits.Reshape id kind) =
    object (member (codes "id") (number (unsigned id))
    (member (codes "shape") (shape_data kind)
    (member (codes "verb") (string (codes "reshape")) no_members)))
edit_data (edits.Show id hidden) =
    object (member (codes "hidden") (boolean hidden)
    (member (codes "id") (number (unsigned id))
    (member (codes "verb") (string (codes "show")) no_members)))
edit_data (edits.Delete id) =
    object (member (codes "id") (number (unsigned id))
    (member (codes "verb") (string (codes "delete")) no_members))
edit_data (edits.Respace parent) =
    object (member (codes "parent") (parent_data parent)
    (member (codes "verb") (string (codes "respace")) no_members))
