-- The clips of a tree: what a branch's children show lies within its clip.
use Rattle.std.specs.Prelude.{◌≡◌, List, [], ◌∷◌, Bool, true, false, ◌&&◌, ◌||◌, cond, Option, Some, None, ℤ}
use Rattle.canvas_plane.specs.declared.PageBox.{PageBox}
use Rattle.canvas_plane.specs.Page.{is_in}
use Rattle.canvas_paint.specs.declared.item.Item.{Item}
use Rattle.canvas_scene.specs.declared.nodes.Node.{Node}
use Rattle.canvas_scene.specs.declared.nodes.Node.TheOpen.{Node-F, Leaf, Branch}
use Rattle.canvas_scene.specs.declared.nodes.Node.TheFolds.{fold-Node}
use Rattle.canvas_paint.specs.Items.{item_holds}

-- a node at a pixel: whether an item of it holds the pixel, and whether the clip of each branch in it does where an item of the branch's children does
pub record AtPixel : Type 0 where
  pub holds : Bool
  pub keeps : Bool

abbrev pub some_holds : List AtPixel → Bool
some_holds [] = false
some_holds (n ∷ ns) = n.holds || some_holds ns

abbrev pub all_keep : List AtPixel → Bool
all_keep [] = true
all_keep (n ∷ ns) = n.keeps && all_keep ns

abbrev pub back_holds : Option Item → ℤ → ℤ → Bool
back_holds None x y = false
back_holds (Some i) x y = item_holds i x y

abbrev pub leaf_at : ℤ → ℤ → Item → AtPixel
leaf_at x y i = record { holds = item_holds i x y; keeps = true }

abbrev pub branch_at : ℤ → ℤ → PageBox → Option Item → List AtPixel → AtPixel
branch_at x y clip back nodes = record { holds = back_holds back x y || some_holds nodes; keeps = cond (some_holds nodes) (is_in clip x y) true && all_keep nodes }

abbrev pub at_step : ℤ → ℤ → Node-F AtPixel → AtPixel
at_step x y (Leaf i) = leaf_at x y i
at_step x y (Branch clip back nodes) = branch_at x y clip back nodes.now

abbrev pub at_pixel : ℤ → ℤ → Node → AtPixel
at_pixel x y = fold-Node AtPixel (at_step x y)

-- no item of the node holds a pixel outside the clip, and the children of no branch in it one outside the branch's
abbrev pub IsClipped : PageBox → Node → Type 0
IsClipped clip node = (x y : ℤ) → ((at_pixel x y node).holds ≡ true → is_in clip x y ≡ true) × ((at_pixel x y node).keeps ≡ true)
