use Rattle.std.proofs.Common.{◌∙◌, ap, map}
use Rattle.std.specs.List.{remove}
use Rattle.canvas_list.specs.declared.in_place.ItemChange.TheVariants.{Remove}
use Rattle.canvas_doc.proofs.editing.Placements.{bounds-are, bounds_of, map-remove, on-ok, place-changed, shape_of, shapes-are}
use Rattle.canvas_doc.proofs.placed_shapes.PlacedShapes.remove.Goals as goal

pub change-requires : goal.change-requires
change-requires c = place-changed c.self.inside.list c.args.self.now c.args.at Remove c.self.view_is c.requires

pub returns-clause-shapes : goal.returns-clause-shapes
returns-clause-shapes c = on-ok c.change.result (λ e. ap (map shape_of) e ∙ map-remove shape_of c.self.inside.list c.args.at ∙ ap (λ l. remove l c.args.at) (shapes-are c.self.inside.list c.args.self.now c.self.view_is)) c.change.ensures.made

pub returns-clause-bounds : goal.returns-clause-bounds
returns-clause-bounds c = on-ok c.change.result (λ e. ap (map bounds_of) e ∙ map-remove bounds_of c.self.inside.list c.args.at ∙ ap (λ l. remove l c.args.at) (bounds-are c.self.inside.list c.args.self.now c.self.view_is)) c.change.ensures.made
