use Rattle.std.proofs.Common.{◌≡◌, ◌<◌, ◌≤◌, ◌∙◌, ◌+◌, ◌-◌, ◌++◌, [], ◌∷◌, ℕ, All, List, arith, ap, drop, length, map, refl, subst, sym, take}
use Rattle.std.proofs.lemmas.List.{map-append}
use Rattle.canvas_doc.specs.declared.bounds.Bounds.{Bounds}
use Rattle.canvas_doc.specs.declared.placed_shapes.PlacedShape.{PlacedShape}
use Rattle.canvas_record.specs.declared.records.Record.{Record}
use Rattle.canvas_record.specs.Children.{children}
use Rattle.canvas_record.specs.Contents.{Contents}
use Rattle.canvas_doc.specs.Placements.{Placements}
use Rattle.canvas_doc.specs.PlaceOrder.{IsKeptInOrder}
use Rattle.canvas_record.specs.Tree.{IsInLimits}
use Rattle.canvas_doc.proofs.editing.InPlace.{room-next}
use Rattle.canvas_doc.proofs.boxes.InSight.{AreInSight, StandsThere, children-in_sight, none-seen, one-seen, part-all, read-below, read-upto, stands-there}
use Rattle.canvas_doc.proofs.boxes.PassedOver.{sight-kept}
use Rattle.canvas_doc.proofs.editing.Placements.{shape_of}
use Rattle.canvas_doc.proofs.siblings.Sorting.{all-by_reference, all-children, record_of}
use Rattle.canvas_doc.proofs.Document.children_meeting.Goals as goal

less : (a b : ℕ) → a < b → a ≤ b
less a b h = omega arith

closer : (at next end : ℕ) → at < end → end ≤ next → end - next < end - at
closer at next end h k = omega arith

nearer : (at next end : ℕ) → at ≤ next → next < end → end - (next + 1) < end - at
nearer at next end h k = omega arith

pub walk-init : goal.walk-init
walk-init g c =
    let now : Contents = c.args.self.now in
    let start : ℕ = c.children_of-start.result.start in
    let none : 0 ≡ start - start = omega arith in
    record {
      reader = refl;
      from = omega arith;
      upto = c.children_of-start.ensures.children.from;
      seen = subst (λ (l : List Record). AreInSight now.records c.args.out.now c.args.clip.now l (take (start - start) (drop start (map shape_of c.children_of-start.result.reader)))) (sym (ap (map record_of) c.in_ok-seen.ensures.items))
          (subst (λ (n : ℕ). AreInSight now.records c.args.out.now c.args.clip.now [] (take n (drop start (map shape_of c.children_of-start.result.reader)))) none (none-seen now.records c.args.out.now c.args.clip.now));
    }

pub walk-preserved : goal.walk-preserved
walk-preserved g c =
    let now : Contents = c.args.self.now in
    let order : List Record = c.self.inside.order.shapes in
    let bounds : List Bounds = c.self.inside.order.bounds in
    let start : ℕ = c.children_of-start.result.start in
    let at : ℕ = c.walk.at in
    let next : ℕ = c.next_meeting-at.result in
    let seen : List Record = map record_of c.walk.seen.items in
    let keeps : IsKeptInOrder now order bounds = subst (λ (d : Contents). IsKeptInOrder d order bounds) c.self.view_is c.self.invariant in
    let shapes : map shape_of c.children_of-start.result.reader ≡ order = ap (λ (p : Placements). p.shapes) c.children_of-start.ensures.reader in
    let gone : AreInSight now.records c.args.out.now c.args.clip.now seen (take (next - start) (drop start order)) =
    sight-kept now c.children_of-start.result.reader c.walk.reader c.self.inside.order c.children_of-start.ensures.reader c.walk.invariant.reader keeps c.args.out.now c.args.clip.now c.of_clip-area.result c.of_clip-area.ensures.covered c.requires.quarter c.of_clip-area.ensures.clip
    at next c.next_meeting-at.ensures.from (omega (arith, c.next_meeting-at.ensures.upto, c.children_of-start.ensures.children.bound)) c.next_meeting-at.ensures.apart seen start c.walk.invariant.from
    (subst (λ (l : List Record). AreInSight now.records c.args.out.now c.args.clip.now seen (take (at - start) (drop start l))) shapes c.walk.invariant.seen) in
    record {
      reader = c.next_meeting-at.ensures.same ∙ c.walk.invariant.reader;
      from = omega (arith, c.walk.invariant.from, c.next_meeting-at.ensures.from);
      upto = c.next_meeting-at.ensures.upto;
      seen = subst (λ (l : List Record). AreInSight now.records c.args.out.now c.args.clip.now seen (take (next - start) (drop start l))) (sym shapes) gone;
    }

pub walk-preserved-then-at-end : goal.walk-preserved-then-at-end
walk-preserved-then-at-end g c =
    let now : Contents = c.args.self.now in
    let order : List Record = c.self.inside.order.shapes in
    let bounds : List Bounds = c.self.inside.order.bounds in
    let start : ℕ = c.children_of-start.result.start in
    let at : ℕ = c.walk.at in
    let next : ℕ = c.next_meeting-at.result in
    let seen : List Record = map record_of c.walk.seen.items in
    let keeps : IsKeptInOrder now order bounds = subst (λ (d : Contents). IsKeptInOrder d order bounds) c.self.view_is c.self.invariant in
    let shapes : map shape_of c.children_of-start.result.reader ≡ order = ap (λ (p : Placements). p.shapes) c.children_of-start.ensures.reader in
    let gone : AreInSight now.records c.args.out.now c.args.clip.now seen (take (next - start) (drop start order)) =
    sight-kept now c.children_of-start.result.reader c.walk.reader c.self.inside.order c.children_of-start.ensures.reader c.walk.invariant.reader keeps c.args.out.now c.args.clip.now c.of_clip-area.result c.of_clip-area.ensures.covered c.requires.quarter c.of_clip-area.ensures.clip
    at next c.next_meeting-at.ensures.from (omega (arith, c.next_meeting-at.ensures.upto, c.children_of-start.ensures.children.bound)) c.next_meeting-at.ensures.apart seen start c.walk.invariant.from
    (subst (λ (l : List Record). AreInSight now.records c.args.out.now c.args.clip.now seen (take (at - start) (drop start l))) shapes c.walk.invariant.seen) in
    let x : PlacedShape = c.at.result.now in
    let from : start ≤ next = omega (arith, c.walk.invariant.from, c.next_meeting-at.ensures.from) in
    let within : next < length order = omega (arith, c.children_of-start.ensures.children.bound, c.if-at-end.true) in
    let here : StandsThere order bounds start next x.shape x.bounds =
    stands-there c.children_of-start.result.reader c.next_meeting-at.new.self c.self.inside.order start next x c.children_of-start.ensures.reader (c.next_meeting-at.ensures.same ∙ c.walk.invariant.reader) from within c.at.ensures.item in
    let all : List Record = take (next - start) (drop start order) in
    let pushed : seen ++ x.shape ∷ [] ≡ map record_of c.push.new.self.items =
    ap (λ (r : Record). seen ++ r ∷ []) (sym c.value.ensures)
    ∙ sym (map-append record_of c.walk.seen.items (c.value.result ∷ []))
    ∙ ap (map record_of) (sym c.in_ok-push.ensures.items) in
    let met : AreInSight now.records c.args.out.now c.args.clip.now (map record_of c.push.new.self.items) (take (next + 1 - start) (drop start order)) =
    subst (λ (l : List Record). AreInSight now.records c.args.out.now c.args.clip.now (map record_of c.push.new.self.items) l) (sym here.more)
    (subst (λ (l : List Record). AreInSight now.records c.args.out.now c.args.clip.now l (all ++ x.shape ∷ [])) pushed (one-seen now.records c.args.out.now c.args.clip.now seen all x.shape gone)) in
    record {
      reader = c.at.ensures.same ∙ c.next_meeting-at.ensures.same ∙ c.walk.invariant.reader;
      from = omega (arith, from);
      upto = omega (arith, c.if-at-end.true);
      seen = subst (λ (l : List Record). AreInSight now.records c.args.out.now c.args.clip.now (map record_of c.push.new.self.items) (take (next + 1 - start) (drop start l))) (sym shapes) met;
    }

pub returns-clause-part : goal.returns-clause-part
returns-clause-part g c =
    (children-in_sight (record { records = c.self.inside.records; next = c.self.inside.next }) c.args.self.now c.self.inside.order.shapes c.self.inside.order.bounds c.self.invariant c.self.view_is c.args.parent c.args.out.now c.args.clip.now
    (map record_of c.walk.seen.items) c.children_of-start.result.start c.walk.at c.children_of-start.result.end c.children_of-start.ensures.children (omega (arith, c.walk.invariant.upto, c.walk-test.false))
    (subst (λ (l : List Record). AreInSight c.args.self.now.records c.args.out.now c.args.clip.now (map record_of c.walk.seen.items) (take (c.walk.at - c.children_of-start.result.start) (drop c.children_of-start.result.start l))) (ap (λ (p : Placements). p.shapes) c.children_of-start.ensures.reader) c.walk.invariant.seen)).part

pub returns-clause-answers : goal.returns-clause-answers
returns-clause-answers g c =
    (children-in_sight (record { records = c.self.inside.records; next = c.self.inside.next }) c.args.self.now c.self.inside.order.shapes c.self.inside.order.bounds c.self.invariant c.self.view_is c.args.parent c.args.out.now c.args.clip.now
    (map record_of c.walk.seen.items) c.children_of-start.result.start c.walk.at c.children_of-start.result.end c.children_of-start.ensures.children (omega (arith, c.walk.invariant.upto, c.walk-test.false))
    (subst (λ (l : List Record). AreInSight c.args.self.now.records c.args.out.now c.args.clip.now (map record_of c.walk.seen.items) (take (c.walk.at - c.children_of-start.result.start) (drop c.children_of-start.result.start l))) (ap (λ (p : Placements). p.shapes) c.children_of-start.ensures.reader) c.walk.invariant.seen)).answers

pub returns-clause-limits : goal.returns-clause-limits
returns-clause-limits g c =
    let rs : List Record = c.args.self.now.records in
    let seen : AreInSight rs c.args.out.now c.args.clip.now (map record_of c.walk.seen.items) (children c.args.parent rs) =
    children-in_sight (record { records = c.self.inside.records; next = c.self.inside.next }) c.args.self.now c.self.inside.order.shapes c.self.inside.order.bounds c.self.invariant c.self.view_is c.args.parent c.args.out.now c.args.clip.now
    (map record_of c.walk.seen.items) c.children_of-start.result.start c.walk.at c.children_of-start.result.end c.children_of-start.ensures.children (omega (arith, c.walk.invariant.upto, c.walk-test.false))
    (subst (λ (l : List Record). AreInSight c.args.self.now.records c.args.out.now c.args.clip.now (map record_of c.walk.seen.items) (take (c.walk.at - c.children_of-start.result.start) (drop c.children_of-start.result.start l))) (ap (λ (p : Placements). p.shapes) c.children_of-start.ensures.reader) c.walk.invariant.seen) in
    let limits : All IsInLimits rs = subst (λ (d : Contents). All IsInLimits d.records) c.self.view_is c.self.invariant.well_formed.limits in
    all-by_reference IsInLimits c.walk.seen.items (part-all IsInLimits (map record_of c.walk.seen.items) (children c.args.parent rs) (all-children IsInLimits c.args.parent rs limits) seen.part)

pub children_of-start-requires : goal.children_of-start-requires
children_of-start-requires g c = c.self.invariant.in_order.rising

pub of_clip-area-requires-clause-quarter : goal.of_clip-area-requires-clause-quarter
of_clip-area-requires-clause-quarter g c = c.requires.quarter

pub of_clip-area-requires-clause-reach : goal.of_clip-area-requires-clause-reach
of_clip-area-requires-clause-reach g c = c.requires.reach

pub next_meeting-at-requires-clause-order : goal.next_meeting-at-requires-clause-order
next_meeting-at-requires-clause-order g c = less c.walk.at c.children_of-start.result.end c.walk-test.true

pub next_meeting-at-requires-clause-within : goal.next_meeting-at-requires-clause-within
next_meeting-at-requires-clause-within g c = read-upto c.children_of-start.result.reader c.walk.reader c.self.inside.order c.children_of-start.ensures.reader c.walk.invariant.reader c.children_of-start.result.end c.children_of-start.ensures.children.bound

pub at-requires : goal.at-requires
at-requires g c = read-below c.children_of-start.result.reader c.next_meeting-at.new.self c.self.inside.order c.children_of-start.ensures.reader (c.next_meeting-at.ensures.same ∙ c.walk.invariant.reader) c.next_meeting-at.result c.children_of-start.result.end c.if-at-end.true c.children_of-start.ensures.children.bound

pub walk-smaller : goal.walk-smaller
walk-smaller g c = closer c.walk.at c.next_meeting-at.result c.children_of-start.result.end c.walk-test.true c.if-at-end.false

pub walk-smaller-then-at-end : goal.walk-smaller-then-at-end
walk-smaller-then-at-end g c = nearer c.walk.at c.next_meeting-at.result c.children_of-start.result.end c.next_meeting-at.ensures.from c.if-at-end.true

pub overflow_add-at : goal.overflow_add-at
overflow_add-at g c = room-next c.self.inside.order.shapes c.self.inside.records c.next_meeting-at.result c.children_of-start.result.end c.self.invariant.in_order.long c.self.invariant.well_formed.few c.children_of-start.ensures.children.bound c.if-at-end.true
