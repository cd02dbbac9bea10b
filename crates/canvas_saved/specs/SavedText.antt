-- The text of a saved document of format 2, as pieces one after another. It is the compact text of the document's JSON value.
use Rattle.std.specs.Prelude.{ℕ, List, ◌++◌, codes, Bool, decimal}
use Rattle.canvas_record.specs.declared.records.Place.{Place}
use Rattle.canvas_record.specs.declared.records.Record.{Record}
use Rattle.canvas_json.specs.Texts.{in_quotes, boolean_text, parent_text, pose_text, kind_text}

unfoldable pub place_text : Place → List ℕ
place_text place = codes "{\"index\":" ++ in_quotes place.index ++ codes ",\"parent\":" ++ parent_text place.parent ++ codes "}"

-- what comes before the place of a record
abbrev pub head_text : Bool → ℕ → List ℕ
head_text hidden id = codes "{\"hidden\":" ++ boolean_text hidden ++ codes ",\"id\":" ++ decimal id ++ codes ",\"place\":"

abbrev pub record_text : Record → List ℕ
record_text r = head_text r.hidden r.id ++ place_text r.place ++ codes ",\"pose\":" ++ pose_text r.pose ++ codes ",\"shape\":" ++ kind_text r.kind ++ codes "}"

-- a document of this next id, with the text of its records from the first on
abbrev pub document_text : ℕ → List ℕ → List ℕ
document_text next shapes = codes "{\"format\":2,\"next\":" ++ decimal next ++ codes ",\"shapes\":[" ++ shapes ++ codes "}"
