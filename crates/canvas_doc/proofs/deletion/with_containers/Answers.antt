use Rattle.std.proofs.Common.{◌≡◌, ◌<◌, ◌+◌, ◌-◌, ◌∙◌, ◌++◌, ◌∷◌, [], ℕ, Bool, List, ap, arith, cond, drop, length, sym, take}
use Rattle.std.proofs.lemmas.List.{append-nil}
use Rattle.canvas_record.specs.declared.records.Record.{Record}
use Rattle.canvas_doc.specs.Deletion.{container_ids}
use Rattle.canvas_doc.proofs.deleting.Freed.{containers-more}
use Rattle.canvas_doc.proofs.deletion.with_containers.Goals as goal
use Rattle.canvas_doc.proofs.deletion.with_containers.Goals.{then-is_container+in_ok-push, else-is_container}

pub loop-at-init : goal.loop-at-init
loop-at-init c =
    let start : ℕ = c.children_range-start.result.start in
    let none : 0 ≡ start - start = omega arith in
    sym (append-nil c.args.ids.items) ∙ ap (λ n. c.args.ids.items ++ container_ids (take n (drop start c.args.order.now.shapes))) none

pub loop-at-preserved : goal.loop-at-preserved
loop-at-preserved c =
    let ids : List ℕ = c.args.ids.items in
    let order : List Record = c.args.order.now.shapes in
    let start : ℕ = c.children_range-start.result.start in
    let at : ℕ = c.loop-at.at in
    let s : Record = c.value-shape.result.now in
    let before : List ℕ = ids ++ container_ids (take (at - start) (drop start order)) in
    let within : at < length order = omega (arith, c.children_range-start.ensures.bound, c.children_range-start.ensures.from) in
    let more : cond c.is_container.result (before ++ s.id ∷ []) before ≡ ids ++ container_ids (take (at + 1 - start) (drop start order)) =
    containers-more ids order start at s c.at.result.now c.is_container.result c.loop-at.auto.at within (c.value-shape.ensures ∙ c.at.ensures) c.is_container.ensures in
    elim c.if-is_container.branch [
      | then-is_container+in_ok-push w ↦
          ap (λ l. l.items) w.all-is ∙ w.in_ok-push.ensures.items ∙ ap (λ (l : List ℕ). l ++ s.id ∷ []) c.loop-at.invariant
          ∙ ap (λ (b : Bool). cond b (before ++ s.id ∷ []) before) (sym w.if-is_container.true) ∙ more
      | else-is_container w ↦
          ap (λ l. l.items) w.all-is ∙ c.loop-at.invariant
          ∙ ap (λ (b : Bool). cond b (before ++ s.id ∷ []) before) (sym w.if-is_container.false) ∙ more
    ]

pub returns : goal.returns
returns c =
    let start : ℕ = c.children_range-start.result.start in
    let within = c.children_range-start.ensures in
    let all : c.loop-at.at ≡ c.children_range-start.result.end = omega (arith, within.from) in
    c.loop-at.invariant ∙ ap (λ n. c.args.ids.items ++ container_ids (take (n - start) (drop start c.args.order.now.shapes))) all
    ∙ ap (λ (l : List Record). c.args.ids.items ++ container_ids l) within.are
