-- What is read as it was written: the values of the types that texts have room for, and coordinates of 32 bits.
use Rattle.std.specs.Prelude.{◌≡◌, ◌<◌, ◌^◌, ℕ, ℤ, Some, IfSome, All}
use Rattle.canvas_plane.specs.declared.Point.{Point}
use Rattle.canvas_plane.specs.declared.Pose.{Pose}
use Rattle.canvas_shape.specs.declared.Colour.{Colour}
use Rattle.canvas_shape.specs.declared.Kind.{Kind}
use Rattle.canvas_shape.specs.declared.Kind.TheVariants.{Group, Frame, Rect, Ellipse, Polygon}
use Rattle.canvas_shape.specs.Names.{colour_named, colour_text}
use Rattle.canvas_record.specs.declared.records.Parent.{Parent}
use Rattle.canvas_record.specs.declared.records.Parent.TheVariants.{Page, Shape}
use Rattle.canvas_json.specs.Json.{in_i32}

-- ---- coordinates of 32 bits

abbrev pub IsCoordinate : ℤ → Type 0
IsCoordinate z = in_i32 z ≡ Some z

abbrev pub IsPoseInRange : Pose → Type 0
IsPoseInRange pose = IsCoordinate pose.dx × IsCoordinate pose.dy

abbrev pub IsPointInRange : Point → Type 0
IsPointInRange p = IsCoordinate p.x × IsCoordinate p.y

abbrev pub IsKindInRange : Kind → Type 0
IsKindInRange Group = Unit {0}
IsKindInRange (Frame w h fill) = Unit {0}
IsKindInRange (Rect w h fill) = Unit {0}
IsKindInRange (Ellipse w h fill) = Unit {0}
IsKindInRange (Polygon points fill) = All IsPointInRange points

-- ---- what the types of the parts say

-- the text of the colour names the colour
abbrev pub IsRead : Colour → Type 0
IsRead colour = colour_named (colour_text colour) ≡ Some colour

abbrev pub FitsSides : ℕ → ℕ → Type 0
FitsSides w h = (w < 2 ^ 32) × (h < 2 ^ 32)

abbrev pub FitsKind : Kind → Type 0
FitsKind Group = Unit {0}
FitsKind (Frame w h fill) = FitsSides w h × IfSome fill IsRead
FitsKind (Rect w h fill) = FitsSides w h × IsRead fill
FitsKind (Ellipse w h fill) = FitsSides w h × IsRead fill
FitsKind (Polygon points fill) = IsRead fill

abbrev pub FitsParent : Parent → Type 0
FitsParent Page = Unit {0}
FitsParent (Shape id) = id < 2 ^ 32
