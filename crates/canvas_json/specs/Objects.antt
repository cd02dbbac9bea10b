-- The JSON values of the parts of records and edits, members in the order of their names.
use Rattle.std.specs.Prelude.{ℕ, List, codes, map, Option, Some, None}
use Rattle.serde_json.specs.Data.{Data, null, boolean, number, string, array, object, unsigned, no_items, item, no_members, member}
use Rattle.serde_json.specs.Find.{of_integer}
use Rattle.serde_json.specs.View.{items_of}
use Rattle.canvas_plane.specs.declared.Point.{Point}
use Rattle.canvas_plane.specs.declared.Pose.{Pose}
use Rattle.canvas_shape.specs.declared.Colour.{Colour}
use Rattle.canvas_shape.specs.declared.Kind.{Kind}
use Rattle.canvas_shape.specs.declared.Kind.TheVariants.{Group, Frame, Rect, Ellipse, Polygon}
use Rattle.canvas_shape.specs.Names.{colour_text}
use Rattle.canvas_record.specs.declared.records.Parent.{Parent}
use Rattle.canvas_record.specs.declared.records.Parent.TheVariants.{Page, Shape}

-- six hexadecimal digits, in lower case
abbrev pub colour_data : Colour → Data
colour_data colour = string (colour_text colour)

-- a frame's fill: null is none
abbrev pub fill_data : Option Colour → Data
fill_data None = null
fill_data (Some colour) = colour_data colour

-- the list [x, y]
abbrev pub point_data : Point → Data
point_data p = array (item (number (of_integer p.x)) (item (number (of_integer p.y)) no_items))

-- a shape with sides
abbrev pub sided_data : List ℕ → ℕ → ℕ → Data → Data
sided_data kind w h fill =
    object (member (codes "fill") fill
    (member (codes "h") (number (unsigned h))
    (member (codes "kind") (string kind)
    (member (codes "w") (number (unsigned w)) no_members))))

abbrev pub polygon_data : List Point → Data → Data
polygon_data points fill =
    object (member (codes "fill") fill
    (member (codes "kind") (string (codes "polygon"))
    (member (codes "points") (array (items_of (map point_data points))) no_members)))

abbrev pub shape_data : Kind → Data
shape_data Group = object (member (codes "kind") (string (codes "group")) no_members)
shape_data (Frame w h fill) = sided_data (codes "frame") w h (fill_data fill)
shape_data (Rect w h fill) = sided_data (codes "rect") w h (colour_data fill)
shape_data (Ellipse w h fill) = sided_data (codes "ellipse") w h (colour_data fill)
shape_data (Polygon points fill) = polygon_data points (colour_data fill)

abbrev pub pose_data : Pose → Data
pose_data pose =
    object (member (codes "dx") (number (of_integer pose.dx))
    (member (codes "dy") (number (of_integer pose.dy))
    (member (codes "flip") (boolean pose.flip)
    (member (codes "quarter") (number (unsigned pose.quarter)) no_members))))

-- null is the page
abbrev pub parent_data : Parent → Data
parent_data Page = null
parent_data (Shape id) = number (unsigned id)
