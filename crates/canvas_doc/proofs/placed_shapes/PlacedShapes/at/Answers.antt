use Rattle.std.proofs.Common.{◌<◌, subst, sym}
use Rattle.canvas_doc.proofs.editing.Placements.{long, shape-at}
use Rattle.canvas_doc.proofs.placed_shapes.PlacedShapes.at.Goals as goal

pub at-requires : goal.at-requires
at-requires c = subst (λ n. c.args.at < n) (sym (long c.self.inside.list c.args.self.now c.self.view_is)) c.requires

pub returns : goal.returns
returns c = shape-at c.self.inside.list c.args.self.now c.self.view_is c.args.at c.at.result.now c.at.ensures
