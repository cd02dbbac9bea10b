use Rattle.std.proofs.Common.{◌≡◌, ◌∙◌, ◌-◌, Bor, List, arith, drop, map, refl, take, ap}
use Rattle.canvas_record.specs.declared.records.Record.{Record}
use Rattle.canvas_doc.specs.Placements.{placements_of}
use Rattle.canvas_doc.proofs.places.ChildrenInOrder.{one-more-listed}
use Rattle.canvas_doc.proofs.boxes.InSight.{read-below}
use Rattle.canvas_doc.proofs.editing.Placements.{shape-at}
use Rattle.canvas_doc.proofs.siblings.Sorting.{record_of}
use Rattle.canvas_doc.proofs.order.children.Goals as goal

pub loop-at-init : goal.loop-at-init
loop-at-init g c =
    let start = c.children_of-start.result.start in
    let none : 0 ≡ start - start = omega arith in
    record {
      reader = c.children_of-start.ensures.reader;
      list = ap (λ (bs : List (Bor Record)). map record_of bs) c.in_ok-list.ensures.items ∙ ap (λ n. take n (drop start c.args.order.now.shapes)) none;
    }

pub loop-at-preserved : goal.loop-at-preserved
loop-at-preserved g c =
    let read = shape-at c.loop-at.reader c.args.order.now c.loop-at.invariant.reader c.loop-at.at c.at.result.now c.at.ensures.item in
    record {
      reader = ap placements_of c.at.ensures.same ∙ c.loop-at.invariant.reader;
      list =
          one-more-listed c.args.order.now.shapes c.children_of-start.result.start c.loop-at.at c.value.result c.at.result.now.shape c.loop-at.list.items c.push.new.self.items
          c.loop-at.auto.at (omega (arith, c.children_of-start.ensures.children.bound, c.children_of-start.ensures.children.from)) (c.value.ensures ∙ read) c.in_ok-push.ensures.items c.loop-at.invariant.list;
    }

pub returns : goal.returns
returns g c =
    let start = c.children_of-start.result.start in
    let within = c.children_of-start.ensures.children in
    let all : c.loop-at.at ≡ c.children_of-start.result.end = omega (arith, within.from) in
    c.loop-at.invariant.list ∙ ap (λ n. take (n - start) (drop start c.args.order.now.shapes)) all ∙ within.are

pub children_of-start-requires : goal.children_of-start-requires
children_of-start-requires g c = c.requires

pub at-requires : goal.at-requires
at-requires g c = read-below c.loop-at.reader c.loop-at.reader c.args.order.now c.loop-at.invariant.reader refl c.loop-at.at c.children_of-start.result.end c.loop-at-test.true c.children_of-start.ensures.children.bound
