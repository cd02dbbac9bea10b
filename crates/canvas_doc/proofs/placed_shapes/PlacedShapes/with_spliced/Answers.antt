use Rattle.std.proofs.Common.{◌∙◌, ◌++◌, ap, drop, map, take}
use Rattle.canvas_doc.proofs.editing.Placements.{bounds-are, bounds_of, map-splice, shape_of, shapes-are}
use Rattle.canvas_doc.proofs.placed_shapes.PlacedShapes.with_spliced.Goals as goal

pub returns-clause-shapes : goal.returns-clause-shapes
returns-clause-shapes c =
    ap (map shape_of) c.in_ok-with_spliced.ensures ∙ map-splice shape_of c.self.inside.list c.args.placed.items c.args.first c.args.end
    ∙ ap (λ l. take c.args.first l ++ map shape_of c.args.placed.items ++ drop c.args.end l) (shapes-are c.self.inside.list c.args.self.now c.self.view_is)

pub returns-clause-bounds : goal.returns-clause-bounds
returns-clause-bounds c =
    ap (map bounds_of) c.in_ok-with_spliced.ensures ∙ map-splice bounds_of c.self.inside.list c.args.placed.items c.args.first c.args.end
    ∙ ap (λ l. take c.args.first l ++ map bounds_of c.args.placed.items ++ drop c.args.end l) (bounds-are c.self.inside.list c.args.self.now c.self.view_is)
