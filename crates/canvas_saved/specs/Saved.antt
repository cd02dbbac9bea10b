-- The texts of saved documents, by their format. That of format 2 is the text that a document is saved as.
use Rattle.std.specs.Borrow.{Bor}
use Rattle.std.specs.Prelude.{ℕ, List, codes, map}
use Rattle.serde_json.specs.Data.{Data, boolean, number, string, object, unsigned, Items, no_members, member}
use Rattle.serde_json.specs.View.{items_of}
use Rattle.serde_json.specs.Written.{compact_text}
use Rattle.canvas_record.specs.declared.records.Record.{Record}
use Rattle.canvas_record.specs.Contents.{Contents}
use Rattle.canvas_json.specs.Objects.{parent_data, pose_data, shape_data}
use Rattle.canvas_json.specs.Saved as saved
use Rattle.canvas_saved.specs.declared.formats.Format.{Format}
use Rattle.canvas_saved.specs.declared.formats.Format.TheVariants.{One, Two}
use Rattle.canvas_saved.specs.Formats.{number_of}

-- in format 1 the parent and the index stand beside the id, in format 2 they are one member
abbrev pub record_data : Format → Record → Data
record_data One r =
    object (member (codes "hidden") (boolean r.hidden)
    (member (codes "id") (number (unsigned r.id))
    (member (codes "index") (string r.place.index)
    (member (codes "parent") (parent_data r.place.parent)
    (member (codes "pose") (pose_data r.pose)
    (member (codes "shape") (shape_data r.kind) no_members))))))
record_data Two r = saved.record_data r

-- a saved document with these shapes
abbrev pub document_data : Format → ℕ → Items → Data
document_data format next shapes = saved.document_data (number_of format) next shapes

-- records as they are lent, with a next id, as the contents of a document
abbrev pub contents_with : ℕ → List (Bor Record) → Contents
contents_with next records = record { records = map (λ r. r.now) records; next = next }

-- the document as a JSON value of a format
abbrev pub data_in : Format → Contents → Data
data_in format d = document_data format d.next (items_of (map (record_data format) d.records))

-- the text of the document in a format
abbrev pub text_in : Format → Contents → List ℕ
text_in format d = compact_text (data_in format d)
