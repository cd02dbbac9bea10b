-- The items of a tree, back to front: a branch's own, then its children's.
use Rattle.std.specs.Prelude.{◌≡◌, List, [], ◌∷◌, ◌++◌, reverse, Option, Some, None, map, Bool, cond, ℤ}
use Rattle.canvas_plane.specs.declared.Pose.{Pose}
use Rattle.canvas_plane.specs.Motion.{carry}
use Rattle.canvas_shape.specs.declared.Colour.{Colour}
use Rattle.canvas_shape.specs.declared.Kind.{Kind}
use Rattle.canvas_shape.specs.Inside.{holds_of}
use Rattle.canvas_record.specs.Picture.{kind_answer}
use Rattle.canvas_paint.specs.declared.item.Item.{Item}
use Rattle.canvas_scene.specs.declared.nodes.Node.{Node}
use Rattle.canvas_scene.specs.declared.nodes.Node.TheOpen.{Node-F, Leaf, Branch}
use Rattle.canvas_scene.specs.declared.nodes.Node.TheFolds.{fold-Node}

-- a branch's own item, if it has one
abbrev pub back_item : Option Item → List Item
back_item None = []
back_item (Some i) = i ∷ []

-- the lists, one after another
abbrev pub joined : List (List Item) → List Item
joined [] = []
joined (xs ∷ rest) = xs ++ joined rest

-- the items of one node, where its children's items stand in their places
abbrev pub items_step : Node-F (List Item) → List Item
items_step (Leaf i) = i ∷ []
items_step (Branch clip back nodes) = back_item back ++ joined nodes.now

-- the items of a node, back to front
abbrev pub items_of : Node → List Item
items_of = fold-Node (List Item) items_step

-- the items of nodes, one after another
abbrev pub items_along : List Node → List Item
items_along nodes = joined (map items_of nodes)

-- after the items of the start, those of the nodes were shown, from front to back
abbrev pub AreShown : List Item → List Item → List Node → Type 0
AreShown start shown nodes = shown ≡ start ++ reverse (items_along (reverse nodes))

-- what is seen through a clip
abbrev pub seen : Bool → Option Colour → Option Colour
seen inside answer = cond inside answer None

-- what a kind shows at a pixel, where the pose carries its own points to the page and `inner` is its children's answer
abbrev pub shown_of : Kind → Pose → Option Colour → ℤ → ℤ → Option Colour
shown_of kind page inner x y = kind_answer kind (holds_of kind (carry page) x y) inner
