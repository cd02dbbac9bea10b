use Rattle.std.proofs.Common.{◌<◌, subst, sym}
use Rattle.canvas_doc.proofs.editing.Placements.{bounds-at, long}
use Rattle.canvas_doc.proofs.placed_shapes.PlacedShapes.bounds_at.Goals as goal

pub at-requires : goal.at-requires
at-requires c = subst (λ n. c.args.at < n) (sym (long c.self.inside.list c.args.self.now c.self.view_is)) c.requires

pub returns : goal.returns
returns c = bounds-at c.self.inside.list c.args.self.now c.self.view_is c.args.at c.at.result.now c.at.ensures
