use Rattle.std.proofs.Common.{◌≡◌, ℕ, List, Option, ◌∙◌, refl, sym, ap, subst, arith, true, false, ◌+◌, ◌-◌, ◌<◌, ◌≤◌, get_or, length, drop, map, rules, take}
use Rattle.std.specs.Option.{is_some}
use Rattle.std.proofs.lemmas.Option.{get_or_from_slice_get, slice_get_within}
use Rattle.canvas_plane.specs.Motion.{carry}
use Rattle.canvas_shape.specs.declared.Colour.{Colour}
use Rattle.canvas_doc.specs.declared.bounds.Bounds.{Bounds}
use Rattle.canvas_record.specs.declared.records.Record.{Record}
use Rattle.canvas_record.specs.Children.{children}
use Rattle.canvas_record.specs.Contents.{Contents}
use Rattle.canvas_record.specs.Picture.{answer_of, first_answer}
use Rattle.canvas_doc.specs.PlaceOrder.{IsKeptInOrder}
use Rattle.canvas_record.specs.Tree.{IsInLimits}
use Rattle.canvas_doc.proofs.places.ChildrenInOrder.{all-in_order, children-are, first-and-rest}
use Rattle.canvas_doc.proofs.boxes.InSight.{pixel-held, read-below, read-upto, stands-there}
use Rattle.canvas_doc.proofs.boxes.PassedOver.{answer-kept}
use Rattle.canvas_doc.proofs.editing.Placements.{shape_of, shapes-are}
use Rattle.canvas_record.proofs.Walk.{answer-by, answer-children, answer-none, first-answer, silent-rest}
use Rattle.canvas_doc.proofs.colour.+walk.Goals as goal

up-to : (r n m : ℕ) → r + n ≤ m → r ≤ m
up-to r n m h = omega arith

next-to : (a b : ℕ) → a < b → a + 1 ≤ b
next-to a b h = omega arith

closer : (slot next end : ℕ) → slot < end → slot + 1 ≤ next → end - next < end - slot
closer slot next end h k = omega arith

pub answer_among-returns-then-levels-eq0 : goal.answer_among-returns-then-levels-eq0
answer_among-returns-then-levels-eq0 t c = answer-none c.args.levels c.args.document.now.records c.args.parent (carry c.args.out.now) c.args.at.x c.args.at.y (omega arith)

pub answer_of-returns-then-holds : goal.answer_of-returns-then-holds
answer_of-returns-then-holds t c =
    c.or_fill.ensures ∙
    answer-by c.args.levels c.args.document.now.records (carry c.args.out.now) c.args.at.x c.args.at.y c.args.shape.now c.then-page.result _ true _ c.then-page.ensures.carries c.if-shape.false c.in-Frame.is (sym c.if-holds.true ∙ c.holds_at-holds.ensures) c.answer_among-then-holds.ensures

pub answer_of-returns-in-Polygon : goal.answer_of-returns-in-Polygon
answer_of-returns-in-Polygon t c =
    c.if_held-in-Polygon.ensures ∙
    answer-by c.args.levels c.args.document.now.records (carry c.args.out.now) c.args.at.x c.args.at.y c.args.shape.now c.then-page.result _ c.holds_at-holds.result _ c.then-page.ensures.carries c.if-shape.false c.in-Polygon.is c.holds_at-holds.ensures refl

pub answer_among-siblings-init : goal.answer_among-siblings-init
answer_among-siblings-init t c =
    let order : List Record = c.document.inside.order.shapes in
    let bounds : List Bounds = c.document.inside.order.bounds in
    let start : ℕ = c.children_of-start.result.start in
    let end : ℕ = c.children_of-start.result.end in
    let slot : ℕ = c.next_meeting-slot.result in
    let f : Record → Option Colour = answer_of (c.args.levels - 1) c.args.document.now.records (carry c.args.out.now) c.args.at.x c.args.at.y in
    let keeps : IsKeptInOrder c.args.document.now order bounds = subst (λ d. IsKeptInOrder d order bounds) c.document.view_is c.document.invariant in
    let shapes : map shape_of c.next_meeting-slot.new.self ≡ order = ap (map shape_of) c.next_meeting-slot.ensures.same ∙ shapes-are c.children_of-start.result.reader c.document.inside.order c.children_of-start.ensures.reader in
    let kept : first_answer f (take (end - slot) (drop slot order)) ≡ first_answer f (take (end - start) (drop start order)) =
    answer-kept c.args.document.now c.children_of-start.result.reader c.children_of-start.result.reader c.document.inside.order c.children_of-start.ensures.reader refl keeps c.args.out.now c.sides.result c.of_clip-area.result c.of_clip-area.ensures.covered c.requires.quarter c.of_clip-area.ensures.clip
    start slot c.next_meeting-slot.ensures.from (omega (arith, c.next_meeting-slot.ensures.upto, c.children_of-start.ensures.children.bound)) c.next_meeting-slot.ensures.apart
    (c.args.levels - 1) c.args.at.x c.args.at.y end (pixel-held c.sides.result c.args.at.x c.args.at.y c.sides.ensures) c.next_meeting-slot.ensures.upto c.children_of-start.ensures.children.bound in
    record {
      reader = refl;
      from = c.next_meeting-slot.ensures.from;
      upto = c.next_meeting-slot.ensures.upto;
      answers = subst (λ (l : List Record). first_answer f (take (end - slot) (drop slot l)) ≡ first_answer f (take (end - start) (drop start l))) (sym shapes) kept;
    }

pub answer_among-answer_of-answer-requires : goal.answer_among-answer_of-answer-requires
answer_among-answer_of-answer-requires t c =
    let order : List Record = c.document.inside.order.shapes in
    let slot : ℕ = c.siblings.slot in
    let within : slot < length order = omega (arith, c.children_of-start.ensures.children.bound, c.siblings-test.true) in
    let here = stands-there c.children_of-start.result.reader c.siblings.reader c.document.inside.order slot slot c.at.result.now c.children_of-start.ensures.reader (c.siblings.invariant.reader ∙ c.next_meeting-slot.ensures.same) (omega arith) within c.at.ensures.item in
    let r : Record = c.at.result.now.shape in
    let limits : IsInLimits (get_or order slot r) = all-in_order IsInLimits order c.document.inside.records c.document.invariant.in_order c.document.invariant.well_formed.limits slot r (slice_get_within order slot r here.shape) in
    (search rules, (subst IsInLimits (sym c.value-shape.ensures) (subst IsInLimits (get_or_from_slice_get order slot r r here.shape) limits), (search rules, search rules)))

pub answer_among-siblings-preserved : goal.answer_among-siblings-preserved
answer_among-siblings-preserved t c =
    let order : List Record = c.document.inside.order.shapes in
    let bounds : List Bounds = c.document.inside.order.bounds in
    let start : ℕ = c.children_of-start.result.start in
    let end : ℕ = c.children_of-start.result.end in
    let slot : ℕ = c.siblings.slot in
    let next : ℕ = c.next_meeting-slot-in-siblings.result in
    let f : Record → Option Colour = answer_of (c.args.levels - 1) c.args.document.now.records (carry c.args.out.now) c.args.at.x c.args.at.y in
    let r : Record = c.at.result.now.shape in
    let keeps : IsKeptInOrder c.args.document.now order bounds = subst (λ d. IsKeptInOrder d order bounds) c.document.view_is c.document.invariant in
    let same : c.siblings.reader ≡ c.children_of-start.result.reader = c.siblings.invariant.reader ∙ c.next_meeting-slot.ensures.same in
    let within : slot < length order = omega (arith, c.children_of-start.ensures.children.bound, c.siblings-test.true) in
    let here = stands-there c.children_of-start.result.reader c.siblings.reader c.document.inside.order slot slot c.at.result.now c.children_of-start.ensures.reader same (omega arith) within c.at.ensures.item in
    let silent : is_some (f r) ≡ false = ap (λ s. is_some (f s)) (sym c.value-shape.ensures) ∙ ap is_some (sym c.answer_of-answer.ensures) ∙ sym c.is_some.ensures ∙ c.if-is_some.false in
    let shapes : map shape_of c.next_meeting-slot.new.self ≡ order = ap (map shape_of) c.next_meeting-slot.ensures.same ∙ shapes-are c.children_of-start.result.reader c.document.inside.order c.children_of-start.ensures.reader in
    let before : first_answer f (take (end - slot) (drop slot order)) ≡ first_answer f (take (end - start) (drop start order)) =
    subst (λ (l : List Record). first_answer f (take (end - slot) (drop slot l)) ≡ first_answer f (take (end - start) (drop start l))) shapes c.siblings.invariant.answers in
    let behind : first_answer f (take (end - (slot + 1)) (drop (slot + 1) order)) ≡ first_answer f (take (end - start) (drop start order)) =
    silent-rest f r (take (end - (slot + 1)) (drop (slot + 1) order)) (take (end - slot) (drop slot order)) (take (end - start) (drop start order))
    (first-and-rest order slot end r r c.siblings-test.true c.children_of-start.ensures.children.bound (sym (get_or_from_slice_get order slot r r here.shape)))
    silent before in
    let kept : first_answer f (take (end - next) (drop next order)) ≡ first_answer f (take (end - (slot + 1)) (drop (slot + 1) order)) =
    answer-kept c.args.document.now c.children_of-start.result.reader c.at.new.self c.document.inside.order c.children_of-start.ensures.reader (c.at.ensures.same ∙ same) keeps c.args.out.now c.sides.result c.of_clip-area.result c.of_clip-area.ensures.covered c.requires.quarter c.of_clip-area.ensures.clip
    (slot + 1) next c.next_meeting-slot-in-siblings.ensures.from (omega (arith, c.next_meeting-slot-in-siblings.ensures.upto, c.children_of-start.ensures.children.bound)) c.next_meeting-slot-in-siblings.ensures.apart
    (c.args.levels - 1) c.args.at.x c.args.at.y end (pixel-held c.sides.result c.args.at.x c.args.at.y c.sides.ensures) c.next_meeting-slot-in-siblings.ensures.upto c.children_of-start.ensures.children.bound in
    record {
      reader = c.next_meeting-slot-in-siblings.ensures.same ∙ c.at.ensures.same ∙ c.siblings.invariant.reader;
      from = omega (arith, c.siblings.invariant.from, c.next_meeting-slot-in-siblings.ensures.from);
      upto = c.next_meeting-slot-in-siblings.ensures.upto;
      answers = subst (λ (l : List Record). first_answer f (take (end - next) (drop next l)) ≡ first_answer f (take (end - start) (drop start l))) (sym shapes) (kept ∙ behind);
    }

pub answer_among-returns-then-is_some : goal.answer_among-returns-then-is_some
answer_among-returns-then-is_some t c =
    let order : List Record = c.document.inside.order.shapes in
    let rs : List Record = c.document.inside.records in
    let start : ℕ = c.children_of-start.result.start in
    let end : ℕ = c.children_of-start.result.end in
    let slot : ℕ = c.siblings.slot in
    let r : Record = c.at.result.now.shape in
    let within : slot < length order = omega (arith, c.children_of-start.ensures.children.bound, c.siblings-test.true) in
    let here = stands-there c.children_of-start.result.reader c.siblings.reader c.document.inside.order slot slot c.at.result.now c.children_of-start.ensures.reader (c.siblings.invariant.reader ∙ c.next_meeting-slot.ensures.same) (omega arith) within c.at.ensures.item in
    let f : Record → Option Colour = answer_of (c.args.levels - 1) c.args.document.now.records (carry c.args.out.now) c.args.at.x c.args.at.y in
    let shapes : map shape_of c.next_meeting-slot.new.self ≡ order = ap (map shape_of) c.next_meeting-slot.ensures.same ∙ shapes-are c.children_of-start.result.reader c.document.inside.order c.children_of-start.ensures.reader in
    let answers : first_answer f (take (end - slot) (drop slot order)) ≡ first_answer f (take (end - start) (drop start order)) =
    subst (λ (l : List Record). first_answer f (take (end - slot) (drop slot l)) ≡ first_answer f (take (end - start) (drop start l))) shapes c.siblings.invariant.answers in
    let answer : c.answer_of-answer.result ≡ f r = c.answer_of-answer.ensures ∙ ap f c.value-shape.ensures in
    answer
    ∙ first-answer f r (take (end - (slot + 1)) (drop (slot + 1) order)) (take (end - slot) (drop slot order)) (take (end - start) (drop start order))
    (first-and-rest order slot end r r c.siblings-test.true c.children_of-start.ensures.children.bound (sym (get_or_from_slice_get order slot r r here.shape)))
    (ap is_some (sym answer) ∙ sym c.is_some.ensures ∙ c.if-is_some.true)
    answers
    ∙ ap (first_answer f) (c.children_of-start.ensures.children.are ∙ children-are c.args.parent order rs c.document.invariant.well_formed.places c.document.invariant.in_order ∙ ap (λ (d : Contents). children c.args.parent d.records) c.document.view_is)
    ∙ sym (answer-children c.args.levels c.args.document.now.records c.args.parent (carry c.args.out.now) c.args.at.x c.args.at.y (omega arith))

pub answer_among-returns : goal.answer_among-returns
answer_among-returns t c =
    let order : List Record = c.document.inside.order.shapes in
    let rs : List Record = c.document.inside.records in
    let end : ℕ = c.children_of-start.result.end in
    let slot : ℕ = c.siblings.slot in
    let f : Record → Option Colour = answer_of (c.args.levels - 1) c.args.document.now.records (carry c.args.out.now) c.args.at.x c.args.at.y in
    let start : ℕ = c.children_of-start.result.start in
    let none : 0 ≡ end - slot = omega (arith, c.siblings-test.false) in
    let shapes : map shape_of c.next_meeting-slot.new.self ≡ order = ap (map shape_of) c.next_meeting-slot.ensures.same ∙ shapes-are c.children_of-start.result.reader c.document.inside.order c.children_of-start.ensures.reader in
    let answers : first_answer f (take (end - slot) (drop slot order)) ≡ first_answer f (take (end - start) (drop start order)) =
    subst (λ (l : List Record). first_answer f (take (end - slot) (drop slot l)) ≡ first_answer f (take (end - start) (drop start l))) shapes c.siblings.invariant.answers in
    ap (λ n. first_answer f (take n (drop slot order))) none
    ∙ answers
    ∙ ap (first_answer f) (c.children_of-start.ensures.children.are ∙ children-are c.args.parent order rs c.document.invariant.well_formed.places c.document.invariant.in_order ∙ ap (λ (d : Contents). children c.args.parent d.records) c.document.view_is)
    ∙ sym (answer-children c.args.levels c.args.document.now.records c.args.parent (carry c.args.out.now) c.args.at.x c.args.at.y (omega arith))

pub answer_among-children_of-start-requires : goal.answer_among-children_of-start-requires
answer_among-children_of-start-requires t c = c.document.invariant.in_order.rising

pub answer_among-of_clip-area-requires-clause-quarter : goal.answer_among-of_clip-area-requires-clause-quarter
answer_among-of_clip-area-requires-clause-quarter t c = c.requires.quarter

pub answer_among-of_clip-area-requires-clause-reach : goal.answer_among-of_clip-area-requires-clause-reach
answer_among-of_clip-area-requires-clause-reach t c = up-to _ _ _ c.requires.reach

pub answer_among-next_meeting-slot-requires-clause-order : goal.answer_among-next_meeting-slot-requires-clause-order
answer_among-next_meeting-slot-requires-clause-order t c = c.children_of-start.ensures.children.from

pub answer_among-next_meeting-slot-requires-clause-within : goal.answer_among-next_meeting-slot-requires-clause-within
answer_among-next_meeting-slot-requires-clause-within t c = read-upto c.children_of-start.result.reader c.children_of-start.result.reader c.document.inside.order c.children_of-start.ensures.reader refl c.children_of-start.result.end c.children_of-start.ensures.children.bound

pub answer_among-at-requires : goal.answer_among-at-requires
answer_among-at-requires t c = read-below c.children_of-start.result.reader c.siblings.reader c.document.inside.order c.children_of-start.ensures.reader (c.siblings.invariant.reader ∙ c.next_meeting-slot.ensures.same) c.siblings.slot c.children_of-start.result.end c.siblings-test.true c.children_of-start.ensures.children.bound

pub answer_among-next_meeting-slot-requires-in-siblings-clause-order : goal.answer_among-next_meeting-slot-requires-in-siblings-clause-order
answer_among-next_meeting-slot-requires-in-siblings-clause-order t c = next-to c.siblings.slot c.children_of-start.result.end c.siblings-test.true

pub answer_among-next_meeting-slot-requires-in-siblings-clause-within : goal.answer_among-next_meeting-slot-requires-in-siblings-clause-within
answer_among-next_meeting-slot-requires-in-siblings-clause-within t c = read-upto c.children_of-start.result.reader c.at.new.self c.document.inside.order c.children_of-start.ensures.reader (c.at.ensures.same ∙ c.siblings.invariant.reader ∙ c.next_meeting-slot.ensures.same) c.children_of-start.result.end c.children_of-start.ensures.children.bound

pub answer_among-siblings-smaller : goal.answer_among-siblings-smaller
answer_among-siblings-smaller t c = closer c.siblings.slot c.next_meeting-slot-in-siblings.result c.children_of-start.result.end c.siblings-test.true c.next_meeting-slot-in-siblings.ensures.from
