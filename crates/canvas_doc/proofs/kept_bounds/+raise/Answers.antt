use Rattle.std.proofs.Common.{◌≡◌, ◌≢◌, ◌<◌, ℕ, Some, set, length, sym, subst, arith}
use Rattle.std.specs.List.{slice_get}
use Rattle.std.proofs.lemmas.Option.{slice_get_within}
use Rattle.canvas_doc.specs.declared.bounds.Bounds.{Bounds}
use Rattle.canvas_record.specs.declared.records.Record.{Record}
use Rattle.canvas_doc.specs.Bounds.{IsCarriedWithin, IsGroupPosition, IsWithinBounds}
use Rattle.canvas_record.specs.Tree.{IsInLimits}
use Rattle.canvas_doc.proofs.boxes.BoundsLaws.{carried-within, within-itself}
use Rattle.canvas_doc.proofs.tree.Marks.{level-blocked}
use Rattle.canvas_doc.proofs.boxes.Widened.{IsStep, done-above, done-held, above-at, above-read, group-limits, one-item, reaches-group, step-read, widened, within-set, within-steps}
use Rattle.canvas_doc.proofs.kept_bounds.+raise.Goals as goal
use Rattle.canvas_doc.proofs.kept_bounds.+raise.Goals.{In-Some, After-contains, After-value-group}
use Rattle.canvas_doc.proofs.lists.Members.{item-at}

-- where the group above the record stands
position : (t : ℕ) (c : In-Some t) → (s : Record) × (slice_get c.args.order.now c.args.at ≡ Some s) × IsGroupPosition s.place.parent c.args.records.now c.args.order.now (Some c.in-Some.up)
position t c = above-at c.args.order.now c.args.records.now c.args.at c.in-Some.up c.args.above c.requires.at c.requires.above c.in-Some.is

group-within : (t : ℕ) (c : In-Some t) → c.in-Some.up < length c.args.order.now
group-within t c = let p = position t c in slice_get_within c.args.order.now c.in-Some.up p.2.0 p.2.1

bounds-within : (t : ℕ) (c : In-Some t) → c.in-Some.up < length c.args.bounds.now
bounds-within t c = subst (λ n. c.in-Some.up < n) (sym c.requires.but.long) (group-within t c)

group-in-limits : (t : ℕ) (c : After-value-group t) → IsInLimits c.value-group.result.now
group-in-limits t c =
    let g = above-read c.args.order.now c.args.records.now c.requires.in_order c.requires.rising c.args.at c.in-Some.up c.args.above c.index-order-up.result c.value-group.result.now c.requires.at c.requires.above c.in-Some.is c.index-order-up.is c.value-group.ensures in
    group-limits c.args.order.now c.args.records.now c.requires.in_order c.requires.rising g.0.place.parent c.value-group.result.now c.requires.limits g.3

step : (t : ℕ) (c : After-contains t) → (s : Record) × IsStep c.args.order.now c.args.records.now c.args.bounds.now c.args.at c.in-Some.up s c.value-group.result.now c.index-bounds-at.result c.index-bounds-up.result
step t c =
    let g = above-read c.args.order.now c.args.records.now c.requires.in_order c.requires.rising c.args.at c.in-Some.up c.args.above c.index-order-up.result c.value-group.result.now c.requires.at c.requires.above c.in-Some.is c.index-order-up.is c.value-group.ensures in
    (g.0, step-read c.args.order.now c.args.records.now c.requires.in_order c.requires.rising c.args.bounds.now c.args.at c.in-Some.up g.0 c.value-group.result.now c.index-bounds-at.result c.index-bounds-up.result c.requires.limits c.requires.but.long g.1 g.2 g.3 c.index-bounds-at.is c.index-bounds-up.is)

-- the child's bounds, carried, lie within what holds them
carried : (t : ℕ) (c : After-contains t) (b : Bounds) → IsWithinBounds c.carried-carried.result b → IsCarriedWithin c.value-group.result.now.pose c.index-bounds-at.result b
carried t c b within =
    let g : Record = c.value-group.result.now in
    let child : IsCarriedWithin g.pose c.index-bounds-at.result c.carried-carried.result = subst (λ x. IsCarriedWithin g.pose x c.carried-carried.result) (sym c.index-bounds-at.is) c.carried-carried.ensures in
    carried-within g.pose c.index-bounds-at.result c.index-bounds-at.result c.carried-carried.result b (step t c).1.quarter (within-itself c.index-bounds-at.result) child within

pub returns-in_default-clause-children : goal.returns-in_default-clause-children
returns-in_default-clause-children t c =
    let s = item-at c.args.order.now c.args.at c.requires.at in
    done-above c.args.order.now c.args.records.now c.requires.in_order c.requires.rising c.args.bounds.now c.args.at s.0 s.1 c.requires.but (subst (IsGroupPosition s.0.place.parent c.args.records.now c.args.order.now) c.in_default.is (c.requires.above s.0 s.1))

pub returns-then-steps-eq0-clause-children : goal.returns-then-steps-eq0-clause-children
returns-then-steps-eq0-clause-children t c =
    let p = position t (goal.at.returns-then-steps-eq0-clause-children t c).In-Some in
    absurd (level-blocked p.2.0.id c.args.steps c.args.records.now p.0 c.if-steps-eq0.true p.2.2.is (c.requires.reaches p.0 p.1))

pub offset_bounds-order-up : goal.offset_bounds-order-up
offset_bounds-order-up t c = let within : c.in-Some.up < length c.args.order.now = group-within t (goal.at.offset_bounds-order-up t c).In-Some in omega arith

pub bounds-order-up : goal.bounds-order-up
bounds-order-up t c = group-within t (goal.at.bounds-order-up t c).In-Some

pub carried-carried-requires-clause-quarter : goal.carried-carried-requires-clause-quarter
carried-carried-requires-clause-quarter t c = (group-in-limits t (goal.at.carried-carried-requires-clause-quarter t c).After-value-group).quarter

pub carried-carried-requires-clause-reach : goal.carried-carried-requires-clause-reach
carried-carried-requires-clause-reach t c = (group-in-limits t (goal.at.carried-carried-requires-clause-reach t c).After-value-group).reach

pub offset_bounds-bounds-up : goal.offset_bounds-bounds-up
offset_bounds-bounds-up t c = let within : c.in-Some.up < length c.args.bounds.now = bounds-within t (goal.at.offset_bounds-bounds-up t c).In-Some in omega arith

pub bounds-bounds-up : goal.bounds-bounds-up
bounds-bounds-up t c = bounds-within t (goal.at.bounds-bounds-up t c).In-Some

pub returns-then-contains-clause-children : goal.returns-then-contains-clause-children
returns-then-contains-clause-children t c =
    let k = (goal.at.returns-then-contains-clause-children t c).After-contains in
    done-held c.args.order.now c.args.records.now c.requires.in_order c.requires.rising c.args.bounds.now c.args.at c.in-Some.up (step t k).0 c.value-group.result.now c.index-bounds-at.result c.index-bounds-up.result (step t k).1
    c.requires.but (carried t k c.index-bounds-up.result (c.contains.ensures c.if-contains.true))

pub offset_bounds-bounds-up-2 : goal.offset_bounds-bounds-up-2
offset_bounds-bounds-up-2 t c = let within : c.in-Some.up < length c.args.bounds.now = bounds-within t (goal.at.offset_bounds-bounds-up-2 t c).In-Some in omega arith

pub bounds-bounds-up-2 : goal.bounds-bounds-up-2
bounds-bounds-up-2 t c = bounds-within t (goal.at.bounds-bounds-up-2 t c).In-Some

pub raise-requires : goal.raise-requires
raise-requires t c =
    let k = (goal.at.raise-requires t c).After-contains in
    let child : Record = (step t k).0 in
    let g : Record = c.value-group.result.now in
    let s = (step t k).1 in
    let reached = reaches-group c.args.steps c.args.records.now child g s.group (c.requires.reaches child s.shape) in
    let steps : c.args.steps ≢ 0 = c.if-steps-eq0.false in (
      omega arith,
      (
        c.requires.in_order,
        (
          c.requires.rising,
          (
            c.requires.limits,
            (
              slice_get_within c.args.order.now c.in-Some.up g s.there,
              (
                λ r e. subst (λ (x : Record). IsGroupPosition x.place.parent c.args.records.now c.args.order.now c.group_position-higher.result) (one-item c.args.order.now c.in-Some.up g r s.there e) c.group_position-higher.ensures,
                (
                  widened c.args.order.now c.args.records.now c.requires.in_order c.requires.rising c.args.bounds.now c.args.at c.in-Some.up child g c.index-bounds-at.result c.index-bounds-up.result c.hull.result s
                      c.requires.but (carried t k c.hull.result c.hull.ensures.second) c.hull.ensures.first,
                  reached c.args.order.now c.in-Some.up s.there,
                ),
              ),
            ),
          ),
        ),
      ),
    )

pub returns-clause-wider : goal.returns-clause-wider
returns-clause-wider t c =
    let s = (step t (goal.at.returns-clause-wider t c).After-contains).1 in
    within-steps c.args.bounds.now (set c.args.bounds.now c.in-Some.up c.hull.result) c.raise.new.bounds
    (within-set c.args.bounds.now c.in-Some.up c.index-bounds-up.result c.hull.result s.held c.hull.ensures.first) c.raise.ensures.wider
