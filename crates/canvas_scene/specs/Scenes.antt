-- What a scene is seen as.
use Rattle.std.specs.Prelude.{List}
use Rattle.canvas_paint.specs.declared.item.Item.{Item}
use Rattle.canvas_scene.specs.declared.nodes.Node.{Node}
use Rattle.canvas_scene.specs.declared.scenes.Scene.{Scene}

-- its tree, from back to front
abbrev pub root_of : Scene → List Node
root_of scene = scene.root.now

-- its items, from back to front
abbrev pub display_list_of : Scene → List Item
display_list_of scene = scene.items.now
