-- The text of a saved document: compact JSON of format 2, members in the order of their names, records by rising id.
use Rattle.std.specs.Prelude.{ℕ, List, codes, map}
use Rattle.serde_json.specs.Data.{Data, boolean, number, string, array, object, unsigned, Items, no_members, member}
use Rattle.serde_json.specs.View.{items_of}
use Rattle.serde_json.specs.Written.{compact_text}
use Rattle.canvas_record.specs.declared.records.Place.{Place}
use Rattle.canvas_record.specs.declared.records.Record.{Record}
use Rattle.canvas_record.specs.Contents.{Contents}
use Rattle.canvas_json.specs.Objects.{parent_data, pose_data, shape_data}

abbrev pub place_data : Place → Data
place_data place =
    object (member (codes "index") (string place.index)
    (member (codes "parent") (parent_data place.parent) no_members))

abbrev pub record_data : Record → Data
record_data r =
    object (member (codes "hidden") (boolean r.hidden)
    (member (codes "id") (number (unsigned r.id))
    (member (codes "place") (place_data r.place)
    (member (codes "pose") (pose_data r.pose)
    (member (codes "shape") (shape_data r.kind) no_members)))))

-- a saved document of a format of this number, with a next id and these shapes
abbrev pub document_data : ℕ → ℕ → Items → Data
document_data format next shapes =
    object (member (codes "format") (number (unsigned format))
    (member (codes "next") (number (unsigned next))
    (member (codes "shapes") (array shapes) no_members)))

-- the text that the document is saved as
abbrev pub saved_text_of : Contents → List ℕ
saved_text_of d = compact_text (document_data 2 d.next (items_of (map record_data d.records)))
