-- The parts of records and edits are read as they are written.
use Rattle.std.proofs.Common.{◌≡◌, ℕ, ◌^◌, ◌<◌, ◌≤◌, ℤ, pos, negsuc, true, false, List, [], ◌∷◌, map, Option, Some, None, All, inl, inr, refl, sym, ◌∙◌, arith}
use Rattle.std.specs.Prelude.{nat_lt, unsigned_abs, IfSome, IsUtf8, codes}
use Rattle.std.specs.List.{AllByRecursion}
use Rattle.std.proofs.lemmas.Bool.{lt-ltb, cases_lt}
use Rattle.std.proofs.lemmas.Bool.Decides.{nat_tests}
use Rattle.std.proofs.lemmas.List.Elements.{recursion_from_All}
use Rattle.json.proofs.Found.{not_found}
use Rattle.json.proofs.Printed.Utf8.{IsUtf8-are_ascii}
use Rattle.serde_json.specs.Data.{Data, depth, items_depth, number, unsigned}
use Rattle.serde_json.specs.Find.{of_integer, as_str}
use Rattle.serde_json.specs.View.{items_of}
use Rattle.canvas_plane.specs.declared.Point.{Point}
use Rattle.canvas_plane.specs.declared.Pose.{Pose}
use Rattle.canvas_plane.specs.Motion.{size_of, reach_of}
use Rattle.canvas_shape.specs.Inside.{AreVertices}
use Rattle.canvas_shape.specs.declared.Colour.{Colour}
use Rattle.canvas_shape.specs.declared.Kind.{Kind}
use Rattle.canvas_shape.specs.declared.Kind.TheVariants.{Group, Frame, Rect, Ellipse, Polygon}
use Rattle.canvas_shape.specs.Names.{colour_text}
use Rattle.canvas_record.specs.declared.records.Parent.{Parent}
use Rattle.canvas_record.specs.declared.records.Parent.TheVariants.{Page, Shape}
use Rattle.canvas_json.specs.Fit.{IsRead, FitsSides, FitsKind, FitsParent, IsCoordinate, IsPointInRange, IsKindInRange, IsPoseInRange}
use Rattle.canvas_json.specs.Json.{i32_of, u32_of, u8_of, in_i32, required, has_exactly, has_others}
use Rattle.canvas_json.specs.Objects.{colour_data, fill_data, point_data, sided_data, polygon_data, shape_data, pose_data, parent_data}
use Rattle.canvas_json.specs.Places.{parent_of}
use Rattle.canvas_json.specs.Poses.{pose_of, pose_members}
use Rattle.canvas_json.specs.Shapes.{colour_of, fill_of, point_of, points_in, points_of, frame_of, rect_of, ellipse_of, polygon_of, shape_named, shape_of, shape_members}
use Rattle.canvas_json.proofs.Words.{word-text, colour-word}
use Rattle.canvas_json.proofs.RoundTrip.{IsWritten, AreItemsWritten, null-written, boolean-written, unsigned-written, integer-written, string-written, no-items-written, item-written, array-written, no-members-written, member-written, object-written}

-- ---- numbers

pub u32-back : (n : ℕ) → n < 2 ^ 32 → u32_of (number (unsigned n)) ≡ Some n
unfolding u32_of
u32-back n h = rw (lt-ltb n (2 ^ 63) (omega arith), lt-ltb n (2 ^ 32) h) refl

u8-back : (n : ℕ) → n < 2 ^ 8 → u8_of (number (unsigned n)) ≡ Some n
unfolding u8_of
u8-back n h = rw (lt-ltb n (2 ^ 63) (omega arith), lt-ltb n (2 ^ 8) h) refl

above : (n : ℕ) → in_i32 (pos n) ≡ Some (pos n) → n ≤ 2147483647
above n h = elim (cases_lt 2147483647 n) [
  | inl big ↦ let none : in_i32 (pos n) ≡ None = rw (lt-ltb 2147483647 n big) refl in not_found (pos n) (sym none ∙ h)
  | inr small ↦ small
]

below : (n : ℕ) → in_i32 (negsuc n) ≡ Some (negsuc n) → n ≤ 2147483647
below n h = elim (cases_lt 2147483647 n) [
  | inl big ↦ let none : in_i32 (negsuc n) ≡ None = rw (lt-ltb 2147483647 n big) refl in not_found (negsuc n) (sym none ∙ h)
  | inr small ↦ small
]

i32-back : (z : ℤ) → IsCoordinate z → i32_of (number (of_integer z)) ≡ Some z
unfolding i32_of
i32-back (pos n) h = let small : n ≤ 2147483647 = above n h in rw (lt-ltb n (2 ^ 63) (omega arith)) h
i32-back (negsuc n) h = h

within : (z : ℤ) → IsCoordinate z → unsigned_abs z ≤ 2 ^ 31
within (pos n) h = let small : n ≤ 2147483647 = above n h in omega arith
within (negsuc n) h = let small : n ≤ 2147483647 = below n h in omega arith

coordinate-written : (z : ℤ) → IsCoordinate z → IsWritten (number (of_integer z))
coordinate-written z h = integer-written z (within z h)

not-above : (n : ℕ) → n ≤ 2 ^ 20 → nat_lt 2147483647 n ≡ false
not-above n h = grind (arith, nat_tests)

-- what lies within 2^20 is in range
pub near : (z : ℤ) → unsigned_abs z ≤ 2 ^ 20 → IsCoordinate z
near (pos n) h = rw (not-above n h) refl
near (negsuc n) h = let k : n ≤ 2 ^ 20 = omega arith in rw (not-above n k) refl

pub point-near : (p : Point) → size_of p ≤ 2 ^ 20 → IsPointInRange p
point-near p h =
    let x : unsigned_abs p.x ≤ 2 ^ 20 = omega arith in
    let y : unsigned_abs p.y ≤ 2 ^ 20 = omega arith in
    (near p.x x, near p.y y)

pub pose-near : (pose : Pose) → reach_of pose ≤ 2 ^ 20 → IsPoseInRange pose
pose-near pose h =
    let dx : unsigned_abs pose.dx ≤ 2 ^ 20 = omega arith in
    let dy : unsigned_abs pose.dy ≤ 2 ^ 20 = omega arith in
    (near pose.dx dx, near pose.dy dy)

pub vertices-near : (points : List Point) → AreVertices points → All IsPointInRange points
vertices-near points vertices = λ k d lt. point-near _ (vertices.near k d lt)

-- ---- parents

parent-page : parent_of (parent_data Page) ≡ Some Page
unfolding parent_of
parent-page = refl

parent-shape : (id : ℕ) → id < 2 ^ 32 → parent_of (parent_data (Shape id)) ≡ Some (Shape id)
unfolding parent_of
parent-shape id h = rw (u32-back id h) refl

pub parent-back : (parent : Parent) → FitsParent parent → parent_of (parent_data parent) ≡ Some parent
parent-back Page h = parent-page
parent-back (Shape id) h = parent-shape id h

pub parent-written : (parent : Parent) → FitsParent parent → IsWritten (parent_data parent)
parent-written Page h = null-written
parent-written (Shape id) h = unsigned-written id (omega arith)

-- ---- poses

pub pose-back : (pose : Pose) → pose.quarter < 2 ^ 8 → IsPoseInRange pose → pose_of (pose_data pose) ≡ Some pose
unfolding pose_of
pose-back pose q r = rw (i32-back pose.dx r.0, i32-back pose.dy r.1, u8-back pose.quarter q) refl

pub pose-written : (pose : Pose) → pose.quarter < 2 ^ 8 → IsPoseInRange pose → IsWritten (pose_data pose)
pose-written pose q r =
    object-written _ (member-written (codes "dx") _ _ (IsUtf8-are_ascii _ refl) (coordinate-written pose.dx r.0)
    (member-written (codes "dy") _ _ (IsUtf8-are_ascii _ refl) (coordinate-written pose.dy r.1)
    (member-written (codes "flip") _ _ (IsUtf8-are_ascii _ refl) (boolean-written pose.flip)
    (member-written (codes "quarter") _ _ (IsUtf8-are_ascii _ refl) (unsigned-written pose.quarter (omega arith)) no-members-written)))) refl

pub pose-exact : (pose : Pose) → has_exactly pose_members (pose_data pose) ≡ true
unfolding has_exactly has_others
pose-exact pose = refl

-- ---- shapes

colour-back : (c : Colour) → IsRead c → colour_of (colour_data c) ≡ Some c
unfolding colour_of
colour-back c h = h

fill-none : fill_of (fill_data None) ≡ Some None
unfolding fill_of
fill-none = refl

fill-some : (c : Colour) → IsRead c → fill_of (fill_data (Some c)) ≡ Some (Some c)
unfolding fill_of
fill-some c h = rw (colour-back c h) refl

fill-back : (fill : Option Colour) → IfSome fill IsRead → fill_of (fill_data fill) ≡ Some fill
fill-back None h = fill-none
fill-back (Some c) h = fill-some c h

pub colour-written : (colour : Colour) → IsRead colour → IsWritten (colour_data colour)
colour-written colour h = string-written (colour_text colour) (word-text (colour_text colour) (colour-word colour h))

fill-written : (fill : Option Colour) → IfSome fill IsRead → IsWritten (fill_data fill)
fill-written None h = null-written
fill-written (Some c) h = colour-written c h

point-back : (p : Point) → IsPointInRange p → point_of (point_data p) ≡ Some p
unfolding point_of
point-back p h = rw (i32-back p.x h.0, i32-back p.y h.1) refl

points-back : (ps : List Point) → AllByRecursion IsPointInRange ps → points_in (items_of (map point_data ps)) ≡ Some ps
points-back [] h = refl
points-back (p ∷ ps) h = rw (point-back p h.0, points-back ps h.1) refl

points-written : (ps : List Point) → AllByRecursion IsPointInRange ps → AreItemsWritten (items_of (map point_data ps))
points-written [] h = no-items-written
points-written (p ∷ ps) h =
    item-written _ _ (array-written _ (item-written _ _ (coordinate-written p.x h.0.0) (item-written _ _ (coordinate-written p.y h.0.1) no-items-written)))
    (points-written ps h.1)

group-back : shape_of (shape_data Group) ≡ Some Group
unfolding shape_of shape_named
group-back = refl

frame-back : (w h : ℕ) (fill : Option Colour) → FitsSides w h → IfSome fill IsRead → shape_of (shape_data (Frame w h fill)) ≡ Some (Frame w h fill)
unfolding shape_of shape_named frame_of
frame-back w h fill sides known = rw (u32-back w sides.0, u32-back h sides.1, fill-back fill known) refl

rect-back : (w h : ℕ) (fill : Colour) → FitsSides w h → IsRead fill → shape_of (shape_data (Rect w h fill)) ≡ Some (Rect w h fill)
unfolding shape_of shape_named rect_of
rect-back w h fill sides known = rw (u32-back w sides.0, u32-back h sides.1, colour-back fill known) refl

ellipse-back : (w h : ℕ) (fill : Colour) → FitsSides w h → IsRead fill → shape_of (shape_data (Ellipse w h fill)) ≡ Some (Ellipse w h fill)
unfolding shape_of shape_named ellipse_of
ellipse-back w h fill sides known = rw (u32-back w sides.0, u32-back h sides.1, colour-back fill known) refl

polygon-back : (ps : List Point) (fill : Colour) → AllByRecursion IsPointInRange ps → IsRead fill → shape_of (shape_data (Polygon ps fill)) ≡ Some (Polygon ps fill)
unfolding shape_of shape_named polygon_of points_of
polygon-back ps fill within known = rw (colour-back fill known, points-back ps within) refl

pub kind-back : (kind : Kind) → FitsKind kind → IsKindInRange kind → shape_of (shape_data kind) ≡ Some kind
kind-back Group h r = group-back
kind-back (Frame w h fill) fits r = frame-back w h fill fits.0 fits.1
kind-back (Rect w h fill) fits r = rect-back w h fill fits.0 fits.1
kind-back (Ellipse w h fill) fits r = ellipse-back w h fill fits.0 fits.1
kind-back (Polygon points fill) fits r = polygon-back points fill (recursion_from_All IsPointInRange points r) fits

-- the name of a kind
abbrev pub name_of : Kind → List ℕ
name_of Group = codes "group"
name_of (Frame w h fill) = codes "frame"
name_of (Rect w h fill) = codes "rect"
name_of (Ellipse w h fill) = codes "ellipse"
name_of (Polygon points fill) = codes "polygon"

pub kind-named : (kind : Kind) → required as_str (codes "kind") (shape_data kind) ≡ Some (name_of kind)
kind-named Group = refl
kind-named (Frame w h fill) = refl
kind-named (Rect w h fill) = refl
kind-named (Ellipse w h fill) = refl
kind-named (Polygon points fill) = refl

-- a shape has exactly the members of its kind
pub kind-exact : (kind : Kind) → has_exactly (shape_members (name_of kind)) (shape_data kind) ≡ true
unfolding has_exactly has_others shape_members
kind-exact Group = refl
kind-exact (Frame w h fill) = refl
kind-exact (Rect w h fill) = refl
kind-exact (Ellipse w h fill) = refl
kind-exact (Polygon points fill) = refl

pub kind-plain : (kind : Kind) → has_others (shape_members (name_of kind)) (shape_data kind) ≡ false
unfolding has_others shape_members
kind-plain Group = refl
kind-plain (Frame w h fill) = refl
kind-plain (Rect w h fill) = refl
kind-plain (Ellipse w h fill) = refl
kind-plain (Polygon points fill) = refl

sided-written : (kind : List ℕ) (w h : ℕ) (fill : Data) → IsUtf8 kind → FitsSides w h → IsWritten fill → IsWritten (sided_data kind w h fill)
sided-written kind w h fill named sides filled =
    let wide : w < 2 ^ 64 = omega arith in
    let high : h < 2 ^ 64 = omega arith in
    object-written _ (member-written (codes "fill") _ _ (IsUtf8-are_ascii _ refl) filled
    (member-written (codes "h") _ _ (IsUtf8-are_ascii _ refl) (unsigned-written h high)
    (member-written (codes "kind") _ _ (IsUtf8-are_ascii _ refl) (string-written kind named)
    (member-written (codes "w") _ _ (IsUtf8-are_ascii _ refl) (unsigned-written w wide) no-members-written)))) refl

polygon-written : (ps : List Point) (fill : Data) → AllByRecursion IsPointInRange ps → IsWritten fill → IsWritten (polygon_data ps fill)
polygon-written ps fill within filled =
    object-written _ (member-written (codes "fill") _ _ (IsUtf8-are_ascii _ refl) filled
    (member-written (codes "kind") _ _ (IsUtf8-are_ascii _ refl) (string-written (codes "polygon") (IsUtf8-are_ascii _ refl))
    (member-written (codes "points") _ _ (IsUtf8-are_ascii _ refl) (array-written _ (points-written ps within)) no-members-written))) refl

pub kind-written : (kind : Kind) → FitsKind kind → IsKindInRange kind → IsWritten (shape_data kind)
kind-written Group fits r =
    object-written _ (member-written (codes "kind") _ _ (IsUtf8-are_ascii _ refl) (string-written (codes "group") (IsUtf8-are_ascii _ refl)) no-members-written) refl
kind-written (Frame w h fill) fits r = sided-written (codes "frame") w h _ (IsUtf8-are_ascii _ refl) fits.0 (fill-written fill fits.1)
kind-written (Rect w h fill) fits r = sided-written (codes "rect") w h _ (IsUtf8-are_ascii _ refl) fits.0 (colour-written fill fits.1)
kind-written (Ellipse w h fill) fits r = sided-written (codes "ellipse") w h _ (IsUtf8-are_ascii _ refl) fits.0 (colour-written fill fits.1)
kind-written (Polygon points fill) fits r = polygon-written points _ (recursion_from_All IsPointInRange points r) (colour-written fill fits)

-- ---- nesting

points-shallow : (ps : List Point) → items_depth (items_of (map point_data ps)) ≤ 1
points-shallow [] = omega arith
points-shallow (p ∷ ps) = omega (arith, points-shallow ps)

fill-shallow : (fill : Option Colour) → depth (fill_data fill) ≤ 0
fill-shallow None = omega arith
fill-shallow (Some colour) = omega arith

pub kind-shallow : (kind : Kind) → depth (shape_data kind) ≤ 3
kind-shallow Group = omega arith
kind-shallow (Frame w h fill) = omega (arith, fill-shallow fill)
kind-shallow (Rect w h fill) = omega arith
kind-shallow (Ellipse w h fill) = omega arith
kind-shallow (Polygon points fill) = omega (arith, points-shallow points)

pub parent-shallow : (parent : Parent) → depth (parent_data parent) ≤ 0
parent-shallow Page = omega arith
parent-shallow (Shape id) = omega arith
