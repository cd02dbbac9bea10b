use Rattle.std.proofs.Common.{◌≡◌, ◌∙◌, ℕ, List, Some, sym, ap, subst, arith, rules, ◌-◌, ◌<◌, get_or, length, drop, map, take}
use Rattle.canvas_plane.specs.declared.PageBox.{PageBox}
use Rattle.canvas_plane.specs.Motion.{carry}
use Rattle.canvas_record.specs.declared.records.Record.{Record}
use Rattle.canvas_record.specs.Children.{children}
use Rattle.canvas_record.specs.Contents.{Contents, record_of, IsWellFormed}
use Rattle.canvas_record.specs.Damage.{extent_of, hull_round}
use Rattle.canvas_doc.specs.PlaceOrder.{IsInPlaceOrder}
use Rattle.canvas_record.specs.Tree.{IsInLimits}
use Rattle.canvas_doc.proofs.places.ChildrenInOrder.{children-are}
use Rattle.canvas_doc.proofs.extents.AfterChange.{extent-childless, leaf-childless}
use Rattle.canvas_doc.proofs.extents.Extents.{extent-by, extent-children, extent-none, order-there, round-more}
use Rattle.canvas_doc.proofs.fitting.Fit.{found-all}
use Rattle.canvas_doc.proofs.damage.+extents.Goals as goal

pub extent_among-returns-then-levels-eq0 : goal.extent_among-returns-then-levels-eq0
extent_among-returns-then-levels-eq0 t c = extent-none c.args.levels c.args.document.now.records c.args.parent (carry c.args.out.now) (omega arith)

pub extent_among-extent_of-one-requires : goal.extent_among-extent_of-one-requires
extent_among-extent_of-one-requires t c =
    let order : List Record = c.document.inside.order.shapes in
    let shape : Record = c.value-shape.result.now in
    let at : ℕ = c.loop-slot.slot - 1 in
    let well : IsWellFormed c.args.document.now = subst IsWellFormed c.document.view_is c.document.invariant.well_formed in
    let ordered : IsInPlaceOrder order c.args.document.now.records = subst (λ (d : Contents). IsInPlaceOrder order d.records) c.document.view_is c.document.invariant.in_order in
    let inside : at < length order = omega (arith, c.children_range-start.ensures.bound) in
    let is : shape ≡ get_or order at c.at.result.now = c.value-shape.ensures ∙ c.at.ensures in
    let here : shape ≡ get_or order at shape = is ∙ ap (get_or order at) (sym c.value-shape.ensures) in
    let there : record_of shape.id c.args.document.now.records ≡ Some shape = order-there order c.args.document.now.records at shape ordered well.rising inside here in
    (search rules, (leaf-childless c.args.document.now well shape.id shape there, (found-all IsInLimits shape.id c.args.document.now.records shape well.limits there, (search rules, search rules))))

pub extent_among-loop-slot-preserved : goal.extent_among-loop-slot-preserved
extent_among-loop-slot-preserved t c = record {
  from = omega arith;
  round = round-more (extent_of (c.args.levels - 1) c.args.document.now.records (carry c.args.out.now)) c.document.inside.order.shapes c.loop-slot.slot c.children_range-start.result.end c.value-shape.result.now c.at.result.now
      c.extent_of-one.result c.loop-slot.area c.hull-area.result (omega arith) c.loop-slot.auto.slot c.children_range-start.ensures.bound (c.value-shape.ensures ∙ c.at.ensures) c.extent_of-one.ensures c.loop-slot.invariant.round c.hull-area.ensures.value;
}

pub extent_among-returns : goal.extent_among-returns
extent_among-returns t c =
    let order : List Record = c.document.inside.order.shapes in
    let end : ℕ = c.children_range-start.result.end in
    let f : Record → PageBox = extent_of (c.args.levels - 1) c.args.document.now.records (carry c.args.out.now) in
    let done : c.loop-slot.slot ≡ c.children_range-start.result.start = omega (arith, c.loop-slot.invariant.from) in
    c.loop-slot.invariant.round
    ∙ ap (λ n. hull_round (map f (take (end - n) (drop n order)))) done
    ∙ ap (λ list. hull_round (map f list)) (c.children_range-start.ensures.are ∙ children-are c.args.parent order c.document.inside.records c.document.invariant.well_formed.places c.document.invariant.in_order ∙ ap (λ (d : Contents). children c.args.parent d.records) c.document.view_is)
    ∙ sym (extent-children c.args.levels c.args.document.now.records c.args.parent (carry c.args.out.now) (omega arith))

pub extent_of-returns-then-is_container : goal.extent_of-returns-then-is_container
extent_of-returns-then-is_container t c =
    extent-by c.args.levels c.args.document.now.records (carry c.args.out.now) c.args.shape.now.id c.args.kind.now c.args.pose.now c.then-page.result c.own_extent-own.result c.extent_among.result c.hull.result
    c.then-page.ensures.carries c.own_extent-own.ensures c.extent_among.ensures c.hull.ensures.value

pub extent_of-returns-else-is_container : goal.extent_of-returns-else-is_container
extent_of-returns-else-is_container t c =
    extent-by c.args.levels c.args.document.now.records (carry c.args.out.now) c.args.shape.now.id c.args.kind.now c.args.pose.now c.then-page.result c.own_extent-own.result _ c.hull-else-is_container.result
    c.then-page.ensures.carries c.own_extent-own.ensures
    (sym (extent-childless c.args.levels c.args.shape.now.id c.args.document.now.records (carry c.then-page.result) (c.requires.leaf (sym c.is_container.ensures ∙ c.if-is_container.false)))) c.hull-else-is_container.ensures.value
