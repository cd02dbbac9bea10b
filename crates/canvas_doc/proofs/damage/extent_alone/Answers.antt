use Rattle.std.proofs.Common.{◌∙◌}
use Rattle.canvas_plane.specs.Motion.{carry}
use Rattle.canvas_record.specs.Damage.{to_page}
use Rattle.canvas_doc.proofs.extents.Extents.{alone-by}
use Rattle.canvas_doc.proofs.damage.extent_alone.Goals as goal

pub returns : goal.returns
returns c =
    alone-by (to_page 31 c.args.records.now c.args.parent) c.args.kind.now c.args.pose.now c.then-page.result c.own_extent.result c.hull.result
    (λ q. c.then-page.ensures.carries q ∙ c.way_up-up.ensures.carries (carry c.args.pose.now q)) c.own_extent.ensures c.hull.ensures.value
