use Rattle.std.proofs.Common.{◌≡◌, ◌≤◌, ◌∙◌, ◌+◌, ◌-◌, ◌∷◌, ℕ, List, false, suc, sym, ap, subst, arith, drop, map, max, rules, take}
use Rattle.std.specs.List.{drop-map, take-map}
use Rattle.canvas_doc.specs.declared.placed_shapes.PlacedShape.{PlacedShape}
use Rattle.canvas_record.specs.declared.records.Parent.TheVariants.{Shape}
use Rattle.canvas_record.specs.declared.records.Record.{Record}
use Rattle.canvas_record.specs.Contents.{Contents, IsWellFormed}
use Rattle.canvas_record.specs.Depth.{greatest}
use Rattle.canvas_doc.specs.Heights.{tallest}
use Rattle.canvas_doc.specs.Placements.{Placements, placements_of}
use Rattle.canvas_doc.specs.PlaceOrder.{IsInPlaceOrder}
use Rattle.canvas_doc.proofs.tree.Heights.{children-listed, greatest-end, greatest-init, greatest-next, next-found, rest-listed, tallest-done, tallest-leaf, tallest-none}
use Rattle.canvas_doc.proofs.editing.Placements.{long, shape_of, shapes-are}
use Rattle.canvas_doc.proofs.ancestry.+levels_below.Goals as goal

pub returns-then-levels-eq0-clause-value : goal.returns-then-levels-eq0-clause-value
returns-then-levels-eq0-clause-value t c = tallest-none c.args.levels c.args.document.now.records (Shape c.args.shape.now.id) (omega arith)

pub returns-then-not-is_container-clause-value : goal.returns-then-not-is_container-clause-value
returns-then-not-is_container-clause-value t c =
    let formed : IsWellFormed c.args.document.now = subst IsWellFormed c.document.view_is c.document.invariant.well_formed in
    let leaf : c.is_container.result ≡ false = search rules in
    tallest-leaf c.args.levels c.args.document.now.records c.args.shape.now formed.grounded c.requires (sym c.is_container.ensures ∙ leaf)

-- what a walk goes over are the records from one position of the order up to another
walked : (all items : List PlacedShape) (p : Placements) (start end : ℕ) → placements_of all ≡ p → items ≡ take (end - start) (drop start all) → map shape_of items ≡ take (end - start) (drop start p.shapes)
walked all items p start end is e =
    ap (map shape_of) e
    ∙ sym (take-map shape_of (end - start) (drop start all))
    ∙ ap (take (end - start)) (sym (drop-map shape_of start all) ∙ ap (drop start) (shapes-are all p is))

pub loop-placed-init : goal.loop-placed-init
loop-placed-init t c =
    let order : List Record = c.document.inside.order.shapes in
    let f : Record → ℕ = λ r. suc (tallest (c.args.levels - 1) c.args.document.now.records (Shape r.id)) in
    let in_order : IsInPlaceOrder order c.args.document.now.records = subst (λ (e : Contents). IsInPlaceOrder order e.records) c.document.view_is c.document.invariant.in_order in
    record {
      value = greatest-init f (map shape_of c.into_iter-placed-iterator.result);
      small = omega arith;
      listed = children-listed (Shape c.args.shape.now.id) order c.args.document.now.records (map shape_of c.into_iter-placed-iterator.result) c.children_range-start.result.start c.children_range-start.result.end in_order c.children_range-start.ensures (walked c.order.inside.list c.into_iter-placed-iterator.result c.document.inside.order c.children_range-start.result.start c.children_range-start.result.end c.order.view_is (c.into_iter-placed-iterator.ensures.into_iter_gives ∙ c.iter_range-placed-items.ensures.items));
    }

pub levels_below-requires : goal.levels_below-requires
levels_below-requires t c =
    let formed : IsWellFormed c.args.document.now = subst IsWellFormed c.document.view_is c.document.invariant.well_formed in
    let next : map shape_of c.loop-placed.placed-iterator ≡ c.value-child.result.now ∷ map shape_of c.next.new.self = ap (map shape_of) c.in-Some.ensures.steps ∙ ap (λ (r : Record). r ∷ map shape_of c.next.new.self) (sym c.value-child.ensures) in
    (search rules, next-found c.args.document.now.records (map shape_of c.loop-placed.placed-iterator) (map shape_of c.next.new.self) c.value-child.result.now formed.rising c.loop-placed.invariant.listed next)

pub loop-placed-preserved : goal.loop-placed-preserved
loop-placed-preserved t c =
    let f : Record → ℕ = λ r. suc (tallest (c.args.levels - 1) c.args.document.now.records (Shape r.id)) in
    let next : map shape_of c.loop-placed.placed-iterator ≡ c.value-child.result.now ∷ map shape_of c.next.new.self = ap (map shape_of) c.in-Some.ensures.steps ∙ ap (λ (r : Record). r ∷ map shape_of c.next.new.self) (sym c.value-child.ensures) in
    let one : c.levels_below.result + 1 ≡ f c.value-child.result.now = omega (arith, c.levels_below.ensures.value) in
    record {
      value = ap (λ n. max n (greatest f (map shape_of c.next.new.self))) c.max-tallest.ensures ∙ greatest-next f (map shape_of c.loop-placed.placed-iterator) (map shape_of c.next.new.self) c.value-child.result.now c.loop-placed.tallest (c.levels_below.result + 1) _ next one c.loop-placed.invariant.value;
      small = omega (arith, c.max-tallest.ensures, c.levels_below.ensures.small, c.loop-placed.invariant.small, c.if-levels-eq0.false);
      listed = rest-listed c.args.document.now.records (map shape_of c.loop-placed.placed-iterator) (map shape_of c.next.new.self) c.value-child.result.now c.loop-placed.invariant.listed next;
    }

pub returns-clause-value : goal.returns-clause-value
returns-clause-value t c =
    let order : List Record = c.document.inside.order.shapes in
    let f : Record → ℕ = λ r. suc (tallest (c.args.levels - 1) c.args.document.now.records (Shape r.id)) in
    let in_order : IsInPlaceOrder order c.args.document.now.records = subst (λ (e : Contents). IsInPlaceOrder order e.records) c.document.view_is c.document.invariant.in_order in
    tallest-done c.args.levels order c.args.document.now.records (Shape c.args.shape.now.id) c.children_range-start.result.start c.children_range-start.result.end c.loop-placed.tallest (omega (arith, c.if-levels-eq0.false)) in_order c.children_range-start.ensures
    (greatest-end f (map shape_of c.loop-placed.placed-iterator) c.loop-placed.tallest _ (ap (map shape_of) c.in-None.ensures.steps.0) c.loop-placed.invariant.value ∙ ap (greatest f) (walked c.order.inside.list c.into_iter-placed-iterator.result c.document.inside.order c.children_range-start.result.start c.children_range-start.result.end c.order.view_is (c.into_iter-placed-iterator.ensures.into_iter_gives ∙ c.iter_range-placed-items.ensures.items)))

pub iter_range-placed-items-requires-clause-within : goal.iter_range-placed-items-requires-clause-within
iter_range-placed-items-requires-clause-within t c = subst (λ n. c.children_range-start.result.end ≤ n) (sym (long c.order.inside.list c.document.inside.order c.order.view_is)) c.children_range-start.ensures.bound
