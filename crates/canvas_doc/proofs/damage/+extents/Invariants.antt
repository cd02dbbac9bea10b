use Rattle.std.proofs.Common.{◌≡◌, ◌≤◌, ◌*◌, ◌+◌, ◌-◌, drop, map, take}
use Rattle.canvas_plane.specs.Motion.{carry}
use Rattle.canvas_record.specs.Damage.{extent_of, hull_round}
use Rattle.canvas_doc.proofs.damage.+extents.Given as goal

abbrev pub decreases-extent_among : goal.decreases-extent_among
decreases-extent_among l = 2 * l.levels

abbrev pub decreases-extent_of : goal.decreases-extent_of
decreases-extent_of l = 2 * l.levels + 1

abbrev pub invariant-extent_among-loop-slot : goal.invariant-extent_among-loop-slot
invariant-extent_among-loop-slot l = record {
  from : l.start ≤ l.slot;
  round : l.area ≡ hull_round (map (extent_of (l.levels - 1) l.document.records (carry l.out)) (take (l.end - l.slot) (drop l.slot l.document-inside.order.shapes)));
}
