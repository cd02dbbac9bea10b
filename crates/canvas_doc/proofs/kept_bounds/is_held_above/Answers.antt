use Rattle.std.proofs.Common.{◌≡◌, Some, arith, length, refl}
use Rattle.std.specs.List.{slice_get}
use Rattle.std.proofs.lemmas.Option.{slice_get_read, slice_get_within}
use Rattle.canvas_doc.proofs.boxes.BoundsLaws.{carried-within, within-itself}
use Rattle.canvas_doc.proofs.boxes.Widened.{found-above, group-at, group-limits, none-above}
use Rattle.canvas_doc.proofs.kept_bounds.is_held_above.Goals as goal

pub returns-in_default : goal.returns-in_default
returns-in_default c = λ h. none-above c.args.order.now.shapes c.args.records.now c.requires.in_order c.requires.rising c.args.order.now.bounds c.args.shape.now c.args.bounds.now c.in_default.ensures

pub bounds_at-requires : goal.bounds_at-requires
bounds_at-requires c =
    let there = group-at c.args.order.now.shapes c.args.records.now c.requires.in_order c.requires.rising c.args.shape.now.place.parent c.in-Some.group.now c.position_in-up.result c.in-Some.ensures c.position_in-up.ensures in
    slice_get_within c.args.order.now.shapes c.position_in-up.result c.in-Some.group.now there

pub carried-requires-clause-quarter : goal.carried-requires-clause-quarter
carried-requires-clause-quarter c = (group-limits c.args.order.now.shapes c.args.records.now c.requires.in_order c.requires.rising c.args.shape.now.place.parent c.in-Some.group.now c.requires.limits c.in-Some.ensures).quarter

pub carried-requires-clause-reach : goal.carried-requires-clause-reach
carried-requires-clause-reach c = (group-limits c.args.order.now.shapes c.args.records.now c.requires.in_order c.requires.rising c.args.shape.now.place.parent c.in-Some.group.now c.requires.limits c.in-Some.ensures).reach

pub returns : goal.returns
returns c =
    let order = c.args.order.now.shapes in
    let rs = c.args.records.now in
    let bounds = c.args.order.now.bounds in
    let s = c.args.shape.now in
    let g = c.in-Some.group.now in
    let k = c.position_in-up.result in
    let there = group-at order rs c.requires.in_order c.requires.rising s.place.parent g k c.in-Some.ensures c.position_in-up.ensures in
    let below = slice_get_within order k g there in
    let quarter = (group-limits order rs c.requires.in_order c.requires.rising s.place.parent g c.requires.limits c.in-Some.ensures).quarter in
    let held : slice_get bounds k ≡ Some c.bounds_at.result.now = slice_get_read bounds (length bounds) k c.bounds_at.result.now refl (omega (arith, c.requires.long)) c.bounds_at.ensures in
    λ h.
    found-above order rs c.requires.in_order c.requires.rising bounds k s g c.args.bounds.now c.bounds_at.result.now c.in-Some.ensures there held
    (carried-within g.pose c.args.bounds.now c.args.bounds.now c.carried.result c.bounds_at.result.now quarter (within-itself c.args.bounds.now) c.carried.ensures (c.contains.ensures h))
