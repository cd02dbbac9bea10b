-- The tree of a scene against the document's: whose node each is, and what its clip leaves of the page.
use Rattle.std.specs.Prelude.{◌≡◌, List, [], ◌∷◌, ◌++◌, map, reverse, Bool, true, false, ◌&&◌, ◌||◌, not, Option, Some, None}
use Rattle.std.specs.Ordering.{int_eq}
use Rattle.std.specs.Str.{bytes_eq}
use Rattle.canvas_plane.specs.declared.PageBox.{PageBox}
use Rattle.canvas_plane.specs.declared.Point.{Point}
use Rattle.canvas_plane.specs.Motion.{carry}
use Rattle.canvas_plane.specs.Page.{meet_of}
use Rattle.canvas_shape.specs.Box.{box_of}
use Rattle.canvas_shape.specs.declared.Colour.{Colour}
use Rattle.canvas_shape.specs.declared.Kind.{Kind}
use Rattle.canvas_shape.specs.declared.Kind.TheVariants.{Group, Frame, Rect, Ellipse, Polygon}
use Rattle.canvas_record.specs.declared.records.Parent.{Parent}
use Rattle.canvas_record.specs.declared.records.Parent.TheVariants.{Shape}
use Rattle.canvas_record.specs.declared.records.Record.{Record}
use Rattle.canvas_record.specs.Children.{children}
use Rattle.canvas_record.specs.Contents.{is_container}
use Rattle.canvas_paint.specs.declared.item.Item.{Item}
use Rattle.canvas_scene.specs.declared.nodes.Node.{Node}
use Rattle.canvas_scene.specs.declared.nodes.Node.TheOpen.{Node-F, Leaf, Branch}
use Rattle.canvas_scene.specs.declared.nodes.Node.TheFolds.{fold-Node}

-- the boxes have the same edges
abbrev pub is_same_box : PageBox → PageBox → Bool
is_same_box a b = (int_eq a.left b.left && int_eq a.top b.top) && (int_eq a.right b.right && int_eq a.bottom b.bottom)

-- what a group or a frame leaves of its parent's clip for its children, where `page` carries its own points to the page: a group all of it, a frame what lies in its box
abbrev pub clip_of : Kind → (Point → Point) → PageBox → PageBox
clip_of (Frame w h fill) page outer = meet_of outer (box_of page w h)
clip_of Group page outer = outer
clip_of (Rect w h fill) page outer = outer
clip_of (Ellipse w h fill) page outer = outer
clip_of (Polygon points fill) page outer = outer

-- the fill of a kind, if it has one
abbrev pub fill_of : Kind → Option Colour
fill_of Group = None
fill_of (Frame w h fill) = fill
fill_of (Rect w h fill) = Some fill
fill_of (Ellipse w h fill) = Some fill
fill_of (Polygon points fill) = Some fill

-- there is a fill, and it is this colour
abbrev pub is_filled_by : Colour → Option Colour → Bool
is_filled_by c None = false
is_filled_by c (Some fill) = bytes_eq c.0 fill.0

-- an item of a branch's own is a frame's, in its fill and under the parent's clip
abbrev pub is_back_of : Option Item → Kind → PageBox → Bool
is_back_of None kind outer = true
is_back_of (Some i) (Frame w h fill) outer = is_same_box i.clip outer && is_filled_by i.fill fill
is_back_of (Some i) Group outer = false
is_back_of (Some i) (Rect w h fill) outer = false
is_back_of (Some i) (Ellipse w h fill) outer = false
is_back_of (Some i) (Polygon points fill) outer = false

-- what a node answers: whether it is that of a record, where the function carries the record's own points to the page and the box is its parent's clip
abbrev pub Test : Type 0
Test = Record → (Point → Point) → PageBox → Bool

-- the nodes are those of the records that are not hidden, in their order, some left out, where `out` carries their parent's points to the page and `clip` is the parent's clip
abbrev pub are_in_order : (Point → Point) → PageBox → List Test → List Record → Bool
are_in_order out clip [] rs = true
are_in_order out clip (n ∷ ns) [] = false
are_in_order out clip (n ∷ ns) (r ∷ rs) = ((not r.hidden && n r (λ q. out (carry r.pose q)) clip) && are_in_order out clip ns rs) || are_in_order out clip (n ∷ ns) rs

-- the node of a leaf, whose item has this clip and this colour: the parent's clip and the record's fill
abbrev pub is_leaf_of : PageBox → Colour → Record → (Point → Point) → PageBox → Bool
is_leaf_of clip colour r page outer = (not (is_container r.kind) && is_same_box clip outer) && is_filled_by colour (fill_of r.kind)

-- the node of a group or a frame: its clip is what the record leaves of the parent's, and its children, from front to back, are the record's under that clip
abbrev pub is_branch_of : List Record → PageBox → Option Item → List Test → Record → (Point → Point) → PageBox → Bool
is_branch_of rs clip back nodes r page outer =
    ((is_container r.kind && is_same_box clip (clip_of r.kind page outer)) && is_back_of back r.kind outer) && are_in_order page clip (reverse nodes) (children (Shape r.id) rs)

abbrev pub node_step : List Record → Node-F Test → Test
node_step rs (Leaf i) = is_leaf_of i.clip i.fill
node_step rs (Branch clip back nodes) = is_branch_of rs clip back nodes.now

-- the node is that of a record of the document
abbrev pub is_node_of : List Record → Node → Test
is_node_of rs = fold-Node Test (node_step rs)

-- the nodes, from back to front, are those of a parent's children in the document, some left out, where `out` carries the parent's points to the page and `clip` is its clip
abbrev pub AreNodesOf : List Record → Parent → (Point → Point) → PageBox → List Node → Type 0
AreNodesOf rs parent out clip nodes = are_in_order out clip (reverse (map (is_node_of rs) nodes)) (children parent rs) ≡ true

-- one node more, of which something holds
pub record IsOneMore (P : Node → Type 0) (old new : List Node) : Type 0 where
  pub node : Node
  pub is : new ≡ old ++ node ∷ []
  pub has : P node
