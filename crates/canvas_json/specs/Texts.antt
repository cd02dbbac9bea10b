-- The texts of the parts of records and edits: compact JSON, members in the order of their names.
use Rattle.std.specs.Prelude.{ℕ, List, [], ◌∷◌, ◌++◌, Bool, true, false, codes, decimal, Option, None, Some}
use Rattle.std.specs.Fmt.{signed_decimal}
use Rattle.serde_json.specs.Written.{comma_if}
use Rattle.canvas_plane.specs.declared.Point.{Point}
use Rattle.canvas_plane.specs.declared.Pose.{Pose}
use Rattle.canvas_shape.specs.declared.Colour.{Colour}
use Rattle.canvas_shape.specs.declared.Kind.{Kind}
use Rattle.canvas_shape.specs.declared.Kind.TheVariants.{Group, Frame, Rect, Ellipse, Polygon}
use Rattle.canvas_shape.specs.Names.{colour_text}
use Rattle.canvas_record.specs.declared.records.Parent.{Parent}
use Rattle.canvas_record.specs.declared.records.Parent.TheVariants.{Page, Shape}

-- a text that stands for itself, in quotes
abbrev pub in_quotes : List ℕ → List ℕ
in_quotes text = codes "\"" ++ text ++ codes "\""

unfoldable pub boolean_text : Bool → List ℕ
boolean_text true = codes "true"
boolean_text false = codes "false"

-- a frame's fill: null is none
unfoldable pub fill_text : Option Colour → List ℕ
fill_text None = codes "null"
fill_text (Some colour) = in_quotes (colour_text colour)

-- null is the page
unfoldable pub parent_text : Parent → List ℕ
parent_text Page = codes "null"
parent_text (Shape id) = decimal id

unfoldable pub pose_text : Pose → List ℕ
pose_text pose =
    codes "{\"dx\":" ++ signed_decimal pose.dx ++ codes ",\"dy\":" ++ signed_decimal pose.dy
    ++ codes ",\"flip\":" ++ boolean_text pose.flip ++ codes ",\"quarter\":" ++ decimal pose.quarter ++ codes "}"

-- the list [x, y]
unfoldable pub point_text : Point → List ℕ
point_text p = codes "[" ++ signed_decimal p.x ++ codes "," ++ signed_decimal p.y ++ codes "]"

-- the items of a list with a comma before each but the first, and the closing bracket
abbrev pub list_text : {T : Type 0} → (T → List ℕ) → Bool → List T → List ℕ
list_text item later [] = codes "]"
list_text item later (x ∷ rest) = comma_if later ++ item x ++ list_text item true rest

-- what follows the fill of a shape with sides
unfoldable pub sides_text : List ℕ → ℕ → ℕ → List ℕ
sides_text kind w h = codes ",\"h\":" ++ decimal h ++ codes ",\"kind\":" ++ in_quotes kind ++ codes ",\"w\":" ++ decimal w ++ codes "}"

unfoldable pub kind_text : Kind → List ℕ
kind_text Group = codes "{\"kind\":\"group\"}"
kind_text (Frame w h fill) = codes "{\"fill\":" ++ fill_text fill ++ sides_text (codes "frame") w h
kind_text (Rect w h fill) = codes "{\"fill\":" ++ in_quotes (colour_text fill) ++ sides_text (codes "rect") w h
kind_text (Ellipse w h fill) = codes "{\"fill\":" ++ in_quotes (colour_text fill) ++ sides_text (codes "ellipse") w h
kind_text (Polygon points fill) =
    codes "{\"fill\":" ++ in_quotes (colour_text fill) ++ codes ",\"kind\":\"polygon\",\"points\":[" ++ list_text point_text false points ++ codes "}"
