use Rattle.std.proofs.Common.{◌≡◌, ◌∙◌, ◌<◌, Some, length, refl, sym, ap, subst, arith}
use Rattle.std.specs.List.{slice_get}
use Rattle.std.proofs.lemmas.Option.{slice_get_read}
use Rattle.canvas_record.specs.declared.records.Record.{Record}
use Rattle.canvas_doc.specs.Bounds.{IsGroupPosition, IsWithinBounds}
use Rattle.canvas_doc.proofs.boxes.Widened.{all-bounds, grown, none-held, one-item, order-limits, order-reaches, own-more, own-of_all, page-no-group}
use Rattle.canvas_doc.proofs.kept_bounds.raise_all.Goals as goal
use Rattle.canvas_doc.proofs.kept_bounds.raise_all.Goals.{After-hull, After-value-shape}

shape-at : (c : After-value-shape) → slice_get c.args.order.now c.loop-at.at ≡ Some c.value-shape.result.now
shape-at c =
    let within : c.loop-at.at < length c.args.order.now = omega arith in
    slice_get_read c.args.order.now (length c.args.order.now) c.loop-at.at c.index-order-at.result refl within c.index-order-at.is ∙ ap Some (sym c.value-shape.ensures)

-- the bounds that stand there, which are made wider
held-at : (c : After-hull) → slice_get c.loop-at.bounds c.loop-at.at ≡ Some c.index-bounds-at.result
held-at c =
    let within : c.loop-at.at < length c.loop-at.bounds = omega (arith, c.loop-at.invariant.children.long) in
    slice_get_read c.loop-at.bounds (length c.loop-at.bounds) c.loop-at.at c.index-bounds-at.result refl within c.index-bounds-at.is

wider : (c : After-hull) → IsWithinBounds c.index-bounds-at.result c.hull.result
wider c = subst (λ x. IsWithinBounds x c.hull.result) (sym c.index-bounds-at.is) c.hull.ensures.first

pub loop-at-init : goal.loop-at-init
loop-at-init c = record {
  own = λ k r b l e f shown. absurd (omega arith);
  children = none-held c.args.order.now c.args.records.now c.requires.in_order c.requires.rising c.args.bounds.now c.requires.limits c.requires.long c.requires.nowhere;
  above = page-no-group c.args.records.now;
}

pub own_bounds-own-requires : goal.own_bounds-own-requires
own_bounds-own-requires c = order-limits c.args.order.now c.args.records.now c.requires.in_order c.requires.rising c.loop-at.at c.value-shape.result.now c.requires.limits (shape-at c)

pub raise-requires-clause-above : goal.raise-requires-clause-above
raise-requires-clause-above c = λ r e.
    let shape = shape-at (goal.at.raise-requires-clause-above c).After-value-shape in
    subst (λ (x : Record). IsGroupPosition x.place.parent c.args.records.now c.args.order.now c.above_for-above.result.group) (one-item c.args.order.now c.loop-at.at c.value-shape.result.now r shape e) c.above_for-above.ensures.group

pub raise-requires-clause-but : goal.raise-requires-clause-but
raise-requires-clause-but c =
    let k = (goal.at.raise-requires-clause-but c).After-hull in
    grown c.args.order.now c.args.records.now c.requires.in_order c.requires.rising c.loop-at.bounds c.loop-at.at c.index-bounds-at.result c.hull.result c.requires.limits c.loop-at.invariant.children (held-at k) (wider k)

pub raise-requires-clause-reaches : goal.raise-requires-clause-reaches
raise-requires-clause-reaches c = λ r e. order-reaches c.args.order.now c.args.records.now c.requires.in_order c.requires.rising c.loop-at.at r c.requires.grounded e

pub loop-at-preserved : goal.loop-at-preserved
loop-at-preserved c =
    let k = (goal.at.loop-at-preserved c).After-hull in
    record {
      own = own-more c.args.order.now c.loop-at.bounds c.raise.new.bounds c.loop-at.at c.value-shape.result.now c.index-bounds-at.result c.own_bounds-own.result c.hull.result
          c.loop-at.invariant.own (shape-at (goal.at.loop-at-preserved c).After-value-shape) (held-at k) c.own_bounds-own.ensures (wider k) c.hull.ensures.second c.raise.ensures.wider;
      children = c.raise.ensures.children;
      above = subst (λ p. IsGroupPosition p c.args.records.now c.args.order.now c.above_for-above.result.group) (sym c.above_for-above.ensures.parent) c.above_for-above.ensures.group;
    }

pub returns : goal.returns
returns c = all-bounds c.args.order.now c.loop-at.bounds (own-of_all c.args.order.now c.loop-at.bounds c.loop-at.at (omega arith) c.loop-at.invariant.own) c.loop-at.invariant.children
