-- The text of an edit is the compact text of its object.
use Rattle.std.proofs.Common.{◌≡◌, refl}
use Rattle.std.specs.Prelude.{codes}
use Rattle.json.specs.Print.{escape_byte}
use Rattle.serde_json.specs.Written.{compact_text}
use Rattle.canvas_record.specs.declared.edits.Spot.{Spot}
use Rattle.canvas_record.specs.declared.edits.Spot.TheVariants.{Back, Front, Over, At}
use Rattle.canvas_record.specs.declared.edits.Edit.{Edit}
use Rattle.canvas_record.specs.declared.edits.Edit.TheVariants as edits
use Rattle.canvas_json.proofs.Spelled.{boolean-spelled, key-spelled, parent-spelled, pose-spelled, kind-spelled, one-laid, two-laid, three-laid, five-laid}
use Rattle.canvas_wire.specs.EditObjects.{spot_data, edit_data}
use Rattle.canvas_wire.specs.EditTexts.{spot_text, edit_text, FitsSpot, FitsEdit}

spot-spelled : (spot : Spot) → FitsSpot spot → spot_text spot ≡ compact_text (spot_data spot)
unfolding spot_text escape_byte
spot-spelled Back h = refl
spot-spelled Front h = refl
spot-spelled (Over id) h = one-laid (codes "{\"over\":") (codes "}") refl
spot-spelled (At key) h = one-laid (codes "{\"at\":") (codes "}") (key-spelled key h)

pub edit-spelled : (edit : Edit) → FitsEdit edit → edit_text edit ≡ compact_text (edit_data edit)
unfolding edit_text escape_byte
edit-spelled (edits.Create kind pose hidden parent spot) fits =
    five-laid (codes "{\"hidden\":") (codes ",\"parent\":") (codes ",\"pose\":") (codes ",\"shape\":") (codes ",\"spot\":") (codes ",\"verb\":\"create\"}")
    (boolean-spelled hidden) (parent-spelled parent) (pose-spelled pose) (kind-spelled kind fits.0) (spot-spelled spot fits.3)
edit-spelled (edits.Move id parent spot) fits =
    three-laid (codes "{\"id\":") (codes ",\"parent\":") (codes ",\"spot\":") (codes ",\"verb\":\"move\"}") refl (parent-spelled parent) (spot-spelled spot fits.2)
edit-spelled (edits.Pose id pose) fits = two-laid (codes "{\"id\":") (codes ",\"pose\":") (codes ",\"verb\":\"pose\"}") refl (pose-spelled pose)
edit-spelled (edits.Reshape id kind) fits = two-laid (codes "{\"id\":") (codes ",\"shape\":") (codes ",\"verb\":\"reshape\"}") refl (kind-spelled kind fits.1)
edit-spelled (edits.Show id hidden) fits = two-laid (codes "{\"hidden\":") (codes ",\"id\":") (codes ",\"verb\":\"show\"}") (boolean-spelled hidden) refl
edit-spelled (edits.Delete id) fits = one-laid (codes "{\"id\":") (codes ",\"verb\":\"delete\"}") refl
edit-spelled (edits.Respace parent) fits = one-laid (codes "{\"parent\":") (codes ",\"verb\":\"respace\"}") (parent-spelled parent)
