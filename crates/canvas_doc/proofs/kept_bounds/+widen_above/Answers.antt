use Rattle.std.proofs.Common.{◌≡◌, ◌≢◌, ◌∙◌, ◌<◌, ◌-◌, arith, ℕ, List, Some, ap, length, refl, subst, sym}
use Rattle.std.specs.List.{slice_get}
use Rattle.std.specs.Result.{is_ok}
use Rattle.std.proofs.lemmas.Option.{slice_get_within}
use Rattle.canvas_record.specs.declared.records.Record.{Record}
use Rattle.canvas_doc.specs.Bounds.{AreBounds}
use Rattle.canvas_doc.specs.Placements.{Placements}
use Rattle.canvas_doc.specs.PlaceOrder.{IsInPlaceOrder}
use Rattle.canvas_doc.proofs.siblings.Neighbours.{found-contained}
use Rattle.canvas_doc.proofs.boxes.Rebounded.{no-own_child}
use Rattle.canvas_doc.proofs.boxes.Widened.{group-at, group-limits}
use Rattle.canvas_doc.proofs.boxes.WidenedAbove.{wider-if}
use Rattle.canvas_doc.proofs.kept_bounds.+widen_above.Goals as goal
use Rattle.canvas_doc.proofs.kept_bounds.+widen_above.Goals.{then-not-is_held_above+in_ok-widen_above, else-not-is_held_above}

fewer : (steps t : ℕ) → steps ≢ 0 → steps ≡ t → steps - 1 < t
fewer steps t some is = omega (arith, some, is)

pub bounds_at-requires : goal.bounds_at-requires
bounds_at-requires t c = slice_get_within c.args.order.now.shapes c.position_in-up.result c.in-Some.group.now (group-at c.args.order.now.shapes c.args.records.now c.requires.in_order c.requires.rising c.args.parent c.in-Some.group.now c.position_in-up.result c.in-Some.ensures c.position_in-up.ensures)

pub carried-requires-clause-quarter : goal.carried-requires-clause-quarter
carried-requires-clause-quarter t c = (group-limits c.args.order.now.shapes c.args.records.now c.requires.in_order c.requires.rising c.args.parent c.in-Some.group.now c.requires.limits c.in-Some.ensures).quarter

pub carried-requires-clause-reach : goal.carried-requires-clause-reach
carried-requires-clause-reach t c = (group-limits c.args.order.now.shapes c.args.records.now c.requires.in_order c.requires.rising c.args.parent c.in-Some.group.now c.requires.limits c.in-Some.ensures).reach

pub bounds_at-requires-then-is_held_above : goal.bounds_at-requires-then-is_held_above
bounds_at-requires-then-is_held_above t c =
    let same : c.if-not-is_held_above.order.shapes ≡ c.args.order.now.shapes =
    elim c.if-not-is_held_above.branch [
      | then-not-is_held_above+in_ok-widen_above w ↦ ap (λ (p : Placements). p.shapes) w.order-is ∙ w.in_ok-widen_above.ensures.shapes
      | else-not-is_held_above w ↦ ap (λ (p : Placements). p.shapes) w.order-is
    ] in
    subst (λ (l : List Record). c.position_in-up.result < length l) (sym same) (slice_get_within c.args.order.now.shapes c.position_in-up.result c.in-Some.group.now (group-at c.args.order.now.shapes c.args.records.now c.requires.in_order c.requires.rising c.args.parent c.in-Some.group.now c.position_in-up.result c.in-Some.ensures c.position_in-up.ensures))

pub change_bounds-requires : goal.change_bounds-requires
change_bounds-requires t c =
    let same : c.if-not-is_held_above.order.shapes ≡ c.args.order.now.shapes =
    elim c.if-not-is_held_above.branch [
      | then-not-is_held_above+in_ok-widen_above w ↦ ap (λ (p : Placements). p.shapes) w.order-is ∙ w.in_ok-widen_above.ensures.shapes
      | else-not-is_held_above w ↦ ap (λ (p : Placements). p.shapes) w.order-is
    ] in
    subst (λ (l : List Record). c.position_in-up.result < length l) (sym same) (slice_get_within c.args.order.now.shapes c.position_in-up.result c.in-Some.group.now (group-at c.args.order.now.shapes c.args.records.now c.requires.in_order c.requires.rising c.args.parent c.in-Some.group.now c.position_in-up.result c.in-Some.ensures c.position_in-up.ensures))

pub returns-in_ok-change_bounds-clause-bounds : goal.returns-in_ok-change_bounds-clause-bounds
returns-in_ok-change_bounds-clause-bounds t c =
    let same : c.if-not-is_held_above.order.shapes ≡ c.args.order.now.shapes =
    elim c.if-not-is_held_above.branch [
      | then-not-is_held_above+in_ok-widen_above w ↦ ap (λ (p : Placements). p.shapes) w.order-is ∙ w.in_ok-widen_above.ensures.shapes
      | else-not-is_held_above w ↦ ap (λ (p : Placements). p.shapes) w.order-is
    ] in
    let kept : AreBounds c.if-not-is_held_above.order.shapes c.if-not-is_held_above.order.bounds =
    elim c.if-not-is_held_above.branch [
      | then-not-is_held_above+in_ok-widen_above w ↦ subst (λ (p : Placements). AreBounds p.shapes p.bounds) (sym w.order-is) w.in_ok-widen_above.ensures.bounds
      | else-not-is_held_above w ↦ subst (λ (p : Placements). AreBounds p.shapes p.bounds) (sym w.order-is) c.requires.bounded
    ] in
    let there : slice_get c.if-not-is_held_above.order.shapes c.position_in-up.result ≡ Some c.in-Some.group.now =
    subst (λ (l : List Record). slice_get l c.position_in-up.result ≡ Some c.in-Some.group.now) (sym same) (group-at c.args.order.now.shapes c.args.records.now c.requires.in_order c.requires.rising c.args.parent c.in-Some.group.now c.position_in-up.result c.in-Some.ensures c.position_in-up.ensures) in
    wider-if (is_ok c.change_bounds.result) c.if-not-is_held_above.order.shapes c.change_bounds.new.self.shapes c.if-not-is_held_above.order.bounds c.change_bounds.new.self.bounds c.position_in-up.result c.in-Some.group.now c.bounds_at-then-is_held_above.result.now c.hull-wider.result
    c.change_bounds.ensures.shapes c.change_bounds.ensures.bounds kept there c.bounds_at-then-is_held_above.ensures
    (c.contains.ensures c.if-contains.true)
    (group-limits c.args.order.now.shapes c.args.records.now c.requires.in_order c.requires.rising c.args.parent c.in-Some.group.now c.requires.limits c.in-Some.ensures).quarter
    (no-own_child c.args.records.now c.in-Some.group.now c.requires.rising c.requires.grounded (found-contained c.in-Some.group.now.id c.args.records.now c.in-Some.group.now c.in-Some.ensures.there))
    (c.is_held_above-2.ensures c.if-is_held_above.true)

pub shown_group-requires : goal.shown_group-requires
shown_group-requires t c = c.requires.rising

pub position_in-up-requires : goal.position_in-up-requires
position_in-up-requires t c = c.requires.in_order.rising

pub is_held_above-requires-clause-in_order : goal.is_held_above-requires-clause-in_order
is_held_above-requires-clause-in_order t c = c.requires.in_order

pub is_held_above-requires-clause-rising : goal.is_held_above-requires-clause-rising
is_held_above-requires-clause-rising t c = c.requires.rising

pub is_held_above-requires-clause-limits : goal.is_held_above-requires-clause-limits
is_held_above-requires-clause-limits t c = c.requires.limits

pub is_held_above-requires-clause-long : goal.is_held_above-requires-clause-long
is_held_above-requires-clause-long t c = c.requires.bounded.long

pub returns-in_default-clause-shapes : goal.returns-in_default-clause-shapes
returns-in_default-clause-shapes t c = refl

pub returns-in_default-clause-bounds : goal.returns-in_default-clause-bounds
returns-in_default-clause-bounds t c = c.requires.bounded

pub returns-then-steps-eq0-clause-shapes : goal.returns-then-steps-eq0-clause-shapes
returns-then-steps-eq0-clause-shapes t c = refl

pub returns-then-steps-eq0-clause-bounds : goal.returns-then-steps-eq0-clause-bounds
returns-then-steps-eq0-clause-bounds t c = c.requires.bounded

pub is_held_above-requires-2-clause-in_order : goal.is_held_above-requires-2-clause-in_order
is_held_above-requires-2-clause-in_order t c =
    let same : c.if-not-is_held_above.order.shapes ≡ c.args.order.now.shapes =
    elim c.if-not-is_held_above.branch [
      | then-not-is_held_above+in_ok-widen_above w ↦ ap (λ (p : Placements). p.shapes) w.order-is ∙ w.in_ok-widen_above.ensures.shapes
      | else-not-is_held_above w ↦ ap (λ (p : Placements). p.shapes) w.order-is
    ] in
    subst (λ (l : List Record). IsInPlaceOrder l c.args.records.now) (sym same) c.requires.in_order

pub is_held_above-requires-2-clause-rising : goal.is_held_above-requires-2-clause-rising
is_held_above-requires-2-clause-rising t c = c.requires.rising

pub is_held_above-requires-2-clause-limits : goal.is_held_above-requires-2-clause-limits
is_held_above-requires-2-clause-limits t c = c.requires.limits

pub is_held_above-requires-2-clause-long : goal.is_held_above-requires-2-clause-long
is_held_above-requires-2-clause-long t c =
    let kept : AreBounds c.if-not-is_held_above.order.shapes c.if-not-is_held_above.order.bounds =
    elim c.if-not-is_held_above.branch [
      | then-not-is_held_above+in_ok-widen_above w ↦ subst (λ (p : Placements). AreBounds p.shapes p.bounds) (sym w.order-is) w.in_ok-widen_above.ensures.bounds
      | else-not-is_held_above w ↦ subst (λ (p : Placements). AreBounds p.shapes p.bounds) (sym w.order-is) c.requires.bounded
    ] in
    kept.long

pub returns-in_ok-change_bounds-clause-shapes : goal.returns-in_ok-change_bounds-clause-shapes
returns-in_ok-change_bounds-clause-shapes t c =
    let same : c.if-not-is_held_above.order.shapes ≡ c.args.order.now.shapes =
    elim c.if-not-is_held_above.branch [
      | then-not-is_held_above+in_ok-widen_above w ↦ ap (λ (p : Placements). p.shapes) w.order-is ∙ w.in_ok-widen_above.ensures.shapes
      | else-not-is_held_above w ↦ ap (λ (p : Placements). p.shapes) w.order-is
    ] in
    c.change_bounds.ensures.shapes ∙ same

pub widen_above-requires : goal.widen_above-requires
widen_above-requires t c = (fewer c.args.steps t c.if-steps-eq0.false c.decreases, (c.requires.in_order, (c.requires.rising, (c.requires.limits, (c.requires.grounded, c.requires.bounded)))))
