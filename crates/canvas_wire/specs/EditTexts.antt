-- The texts of edits: one object of compact JSON each, its members in the order of their names.
use Rattle.std.specs.Prelude.{◌≢◌, ◌<◌, ◌^◌, ℕ, List, ◌++◌, length, slice_index, codes, decimal}
use Rattle.canvas_key.specs.Text.{IsKey}
use Rattle.canvas_record.specs.declared.edits.Spot.{Spot}
use Rattle.canvas_record.specs.declared.edits.Spot.TheVariants.{Back, Front, Over, At}
use Rattle.canvas_record.specs.declared.edits.Edit.{Edit}
use Rattle.canvas_record.specs.declared.edits.Edit.TheVariants as edits
use Rattle.canvas_json.specs.Fit.{IsKindInRange, IsPoseInRange, FitsKind, FitsParent}
use Rattle.canvas_json.specs.Texts.{in_quotes, boolean_text, parent_text, pose_text, kind_text}

unfoldable pub spot_text : Spot → List ℕ
spot_text Back = codes "\"back\""
spot_text Front = codes "\"front\""
spot_text (Over id) = codes "{\"over\":" ++ decimal id ++ codes "}"
spot_text (At key) = codes "{\"at\":" ++ in_quotes key ++ codes "}"

-- ---- the text of an edit

unfoldable pub edit_text : Edit → List ℕ
edit_text (edits.Create kind pose hidden parent spot) =
    codes "{\"hidden\":" ++ boolean_text hidden ++ codes ",\"parent\":" ++ parent_text parent ++ codes ",\"pose\":" ++ pose_text pose
    ++ codes ",\"shape\":" ++ kind_text kind ++ codes ",\"spot\":" ++ spot_text spot ++ codes ",\"verb\":\"create\"}"
edit_text (edits.Move id parent spot) =
    codes "{\"id\":" ++ decimal id ++ codes ",\"parent\":" ++ parent_text parent ++ codes ",\"spot\":" ++ spot_text spot ++ codes ",\"verb\":\"move\"}"
edit_text (edits.Pose id pose) = codes "{\"id\":" ++ decimal id ++ codes ",\"pose\":" ++ pose_text pose ++ codes ",\"verb\":\"pose\"}"
edit_text (edits.Reshape id kind) = codes "{\"id\":" ++ decimal id ++ codes ",\"shape\":" ++ kind_text kind ++ codes ",\"verb\":\"reshape\"}"
edit_text (edits.Show id hidden) = codes "{\"hidden\":" ++ boolean_text hidden ++ codes ",\"id\":" ++ decimal id ++ codes ",\"verb\":\"show\"}"
edit_text (edits.Delete id) = codes "{\"id\":" ++ decimal id ++ codes ",\"verb\":\"delete\"}"
edit_text (edits.Respace parent) = codes "{\"parent\":" ++ parent_text parent ++ codes ",\"verb\":\"respace\"}"

-- no LF (10) stands in the text
abbrev pub IsOneLine : List ℕ → Type 0
IsOneLine text = (k : ℕ) → k < length text → slice_index text k ≢ 10

-- ---- the edits whose texts are read: their coordinates have 32 bits

abbrev pub IsInRange : Edit → Type 0
IsInRange (edits.Create kind pose hidden parent spot) = IsKindInRange kind × IsPoseInRange pose
IsInRange (edits.Move id parent spot) = Unit {0}
IsInRange (edits.Pose id pose) = IsPoseInRange pose
IsInRange (edits.Reshape id kind) = IsKindInRange kind
IsInRange (edits.Show id hidden) = Unit {0}
IsInRange (edits.Delete id) = Unit {0}
IsInRange (edits.Respace parent) = Unit {0}

-- ---- for private clauses: what the types of an edit's parts say

abbrev pub FitsSpot : Spot → Type 0
FitsSpot Back = Unit {0}
FitsSpot Front = Unit {0}
FitsSpot (Over id) = id < 2 ^ 32
FitsSpot (At key) = IsKey key

abbrev pub FitsEdit : Edit → Type 0
FitsEdit (edits.Create kind pose hidden parent spot) = FitsKind kind × (pose.quarter < 2 ^ 8) × FitsParent parent × FitsSpot spot
FitsEdit (edits.Move id parent spot) = (id < 2 ^ 32) × FitsParent parent × FitsSpot spot
FitsEdit (edits.Pose id pose) = (id < 2 ^ 32) × (pose.quarter < 2 ^ 8)
FitsEdit (edits.Reshape id kind) = (id < 2 ^ 32) × FitsKind kind
FitsEdit (edits.Show id hidden) = id < 2 ^ 32
FitsEdit (edits.Delete id) = id < 2 ^ 32
FitsEdit (edits.Respace parent) = FitsParent parent
