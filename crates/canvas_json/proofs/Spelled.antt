-- The texts of the parts of records and edits are the compact texts of their JSON values.
use Rattle.std.proofs.Common.{◌≡◌, ◌++◌, ℕ, ℤ, pos, negsuc, Bool, true, false, List, [], ◌∷◌, map, Option, Some, None, decimal, refl, sym, ap, append_assoc}
use Rattle.std.specs.Prelude.{codes, IfSome}
use Rattle.std.specs.Fmt.{signed_decimal}
use Rattle.json.specs.Print.{escape, escape_byte, quoted}
use Rattle.serde_json.specs.Data.{boolean, string}
use Rattle.serde_json.specs.Find.{of_integer}
use Rattle.serde_json.specs.View.{items_of}
use Rattle.serde_json.specs.Written.{compact_text, items_text, number_text, comma_if}
use Rattle.canvas_plane.specs.declared.Point.{Point}
use Rattle.canvas_plane.specs.declared.Pose.{Pose}
use Rattle.canvas_shape.specs.declared.Colour.{Colour}
use Rattle.canvas_shape.specs.declared.Kind.{Kind}
use Rattle.canvas_shape.specs.declared.Kind.TheVariants.{Group, Frame, Rect, Ellipse, Polygon}
use Rattle.canvas_shape.specs.Names.{colour_text}
use Rattle.canvas_key.specs.Text.{IsKey}
use Rattle.canvas_record.specs.declared.records.Parent.{Parent}
use Rattle.canvas_record.specs.declared.records.Parent.TheVariants.{Page, Shape}
use Rattle.canvas_json.specs.Fit.{IsRead, FitsKind}
use Rattle.canvas_json.specs.Objects.{fill_data, point_data, shape_data, pose_data, parent_data}
use Rattle.canvas_json.specs.Texts.{in_quotes, boolean_text, fill_text, parent_text, pose_text, point_text, list_text, sides_text, kind_text}
use Rattle.canvas_json.proofs.Words.{escape-word, key-word, colour-word}

-- a text that stands for itself
in-quotes : (text : List ℕ) → escape text ≡ text → in_quotes text ≡ quoted text
in-quotes text e = ap (λ (t : List ℕ). 34 ∷ (t ++ 34 ∷ [])) (sym e)

-- a key in quotes
pub key-spelled : (key : List ℕ) → IsKey key → in_quotes key ≡ quoted key
key-spelled key h = in-quotes key (escape-word key (key-word key h))

-- ---- the parts

pub integer-spelled : (z : ℤ) → signed_decimal z ≡ number_text (of_integer z)
integer-spelled (pos n) = refl
integer-spelled (negsuc n) = refl

pub boolean-spelled : (b : Bool) → boolean_text b ≡ compact_text (boolean b)
unfolding boolean_text
boolean-spelled true = refl
boolean-spelled false = refl

colour-spelled : (c : Colour) → IsRead c → in_quotes (colour_text c) ≡ compact_text (string (colour_text c))
colour-spelled c h = in-quotes (colour_text c) (escape-word (colour_text c) (colour-word c h))

fill-spelled : (fill : Option Colour) → IfSome fill IsRead → fill_text fill ≡ compact_text (fill_data fill)
unfolding fill_text
fill-spelled None h = refl
fill-spelled (Some c) h = colour-spelled c h

pub parent-spelled : (parent : Parent) → parent_text parent ≡ compact_text (parent_data parent)
unfolding parent_text
parent-spelled Page = refl
parent-spelled (Shape id) = refl

-- ---- values between other texts, from the left and from the right

pub one-laid : {x a : List ℕ} (l0 l1 : List ℕ) → x ≡ a → l0 ++ x ++ l1 ≡ l0 ++ (a ++ l1)
one-laid l0 l1 e = rw e (simp append_assoc)

pub two-laid : {x a y b : List ℕ} (l0 l1 l2 : List ℕ) → x ≡ a → y ≡ b → l0 ++ x ++ l1 ++ y ++ l2 ≡ l0 ++ (a ++ (l1 ++ (b ++ l2)))
two-laid l0 l1 l2 e f = rw (e, f) (simp append_assoc)

pub three-laid : {x a y b z c : List ℕ} (l0 l1 l2 l3 : List ℕ) → x ≡ a → y ≡ b → z ≡ c
    → l0 ++ x ++ l1 ++ y ++ l2 ++ z ++ l3 ≡ l0 ++ (a ++ (l1 ++ (b ++ (l2 ++ (c ++ l3)))))
three-laid l0 l1 l2 l3 e f g = rw (e, f, g) (simp append_assoc)

pub four-laid : {x a y b z c u d : List ℕ} (l0 l1 l2 l3 l4 : List ℕ) → x ≡ a → y ≡ b → z ≡ c → u ≡ d
    → l0 ++ x ++ l1 ++ y ++ l2 ++ z ++ l3 ++ u ++ l4 ≡ l0 ++ (a ++ (l1 ++ (b ++ (l2 ++ (c ++ (l3 ++ (d ++ l4)))))))
four-laid l0 l1 l2 l3 l4 e f g h = rw (e, f, g, h) (simp append_assoc)

pub five-laid : {x a y b z c u d v w : List ℕ} (l0 l1 l2 l3 l4 l5 : List ℕ) → x ≡ a → y ≡ b → z ≡ c → u ≡ d → v ≡ w
    → l0 ++ x ++ l1 ++ y ++ l2 ++ z ++ l3 ++ u ++ l4 ++ v ++ l5 ≡ l0 ++ (a ++ (l1 ++ (b ++ (l2 ++ (c ++ (l3 ++ (d ++ (l4 ++ (w ++ l5)))))))))
five-laid l0 l1 l2 l3 l4 l5 e f g h i = rw (e, f, g, h, i) (simp append_assoc)

sides-laid : {x a : List ℕ} (l0 l1 h l2 kind l3 w l4 : List ℕ) → x ≡ a
    → l0 ++ x ++ (l1 ++ h ++ l2 ++ kind ++ l3 ++ w ++ l4) ≡ l0 ++ (a ++ (l1 ++ (h ++ (l2 ++ (kind ++ (l3 ++ (w ++ l4)))))))
sides-laid l0 l1 h l2 kind l3 w l4 e = rw e (simp append_assoc)

-- ---- parts with parts

pub pose-spelled : (pose : Pose) → pose_text pose ≡ compact_text (pose_data pose)
unfolding pose_text escape_byte
pose-spelled pose =
    four-laid (codes "{\"dx\":") (codes ",\"dy\":") (codes ",\"flip\":") (codes ",\"quarter\":") (codes "}")
    (integer-spelled pose.dx) (integer-spelled pose.dy) (boolean-spelled pose.flip) refl

point-spelled : (p : Point) → point_text p ≡ compact_text (point_data p)
unfolding point_text
point-spelled p = two-laid (codes "[") (codes ",") (codes "]") (integer-spelled p.x) (integer-spelled p.y)

-- one item more, at the front
pub item-spelled : (later : Bool) (item value rest more : List ℕ) → item ≡ value → rest ≡ more → comma_if later ++ item ++ rest ≡ comma_if later ++ (value ++ more)
item-spelled later item value rest more e f = rw (e, f) (append_assoc (comma_if later) value more)

points-spelled : (later : Bool) (ps : List Point) → list_text point_text later ps ≡ items_text later (items_of (map point_data ps))
points-spelled later [] = refl
points-spelled later (p ∷ ps) = item-spelled later _ _ _ _ (point-spelled p) (points-spelled true ps)

pub kind-spelled : (kind : Kind) → FitsKind kind → kind_text kind ≡ compact_text (shape_data kind)
unfolding kind_text sides_text escape_byte
kind-spelled Group fits = refl
kind-spelled (Frame w h fill) fits =
    sides-laid (codes "{\"fill\":") (codes ",\"h\":") (decimal h) (codes ",\"kind\":") (in_quotes (codes "frame")) (codes ",\"w\":") (decimal w) (codes "}") (fill-spelled fill fits.1)
kind-spelled (Rect w h fill) fits =
    sides-laid (codes "{\"fill\":") (codes ",\"h\":") (decimal h) (codes ",\"kind\":") (in_quotes (codes "rect")) (codes ",\"w\":") (decimal w) (codes "}") (colour-spelled fill fits.1)
kind-spelled (Ellipse w h fill) fits =
    sides-laid (codes "{\"fill\":") (codes ",\"h\":") (decimal h) (codes ",\"kind\":") (in_quotes (codes "ellipse")) (codes ",\"w\":") (decimal w) (codes "}") (colour-spelled fill fits.1)
kind-spelled (Polygon points fill) fits =
    two-laid (codes "{\"fill\":") (codes ",\"kind\":\"polygon\",\"points\":[") (codes "}") (colour-spelled fill fits) (points-spelled false points)
