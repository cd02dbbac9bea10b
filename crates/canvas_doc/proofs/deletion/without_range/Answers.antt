use Rattle.std.proofs.Common.{◌≡◌, ◌==◌, ◌<◌, ◌+◌, ◌-◌, ◌∙◌, ℕ, [], List, ap, arith, drop, filter, length, not, refl, subst, sym, take}
use Rattle.canvas_record.specs.declared.records.Record.{Record}
use Rattle.canvas_record.specs.Contents.{AreRising}
use Rattle.canvas_doc.specs.Deletion.{has_id_of}
use Rattle.canvas_doc.proofs.fitting.FitDelete.{rising-filter}
use Rattle.canvas_doc.proofs.deleting.Freed.{filter-both, filter-none, ids-more}
use Rattle.canvas_doc.proofs.deletion.without_range.Goals as goal

pub loop-at-init : goal.loop-at-init
loop-at-init c =
    let start : ℕ = c.args.start in
    let none : 0 ≡ start - start = omega arith in
    sym (filter-none (λ r. has_id_of [] r) c.args.records (λ i d l. refl))
    ∙ ap (λ n. filter (λ r. not (has_id_of (take n (drop start c.args.order.now.shapes)) r)) c.args.records) none

pub without_id-requires : goal.without_id-requires
without_id-requires c =
    let some : List Record = take (c.loop-at.at - c.args.start) (drop c.args.start c.args.order.now.shapes) in
    subst AreRising (sym c.loop-at.invariant) (rising-filter (λ r. not (has_id_of some r)) c.args.records c.requires.rising)

pub loop-at-preserved : goal.loop-at-preserved
loop-at-preserved c =
    let start : ℕ = c.args.start in
    let at : ℕ = c.loop-at.at in
    let order : List Record = c.args.order.now.shapes in
    let s : Record = c.value.result.now in
    let within : at < length order = omega (arith, c.requires.within, c.requires.from) in
    c.in_ok-left.ensures
    ∙ ap (filter (λ r. not (r.id == s.id))) c.loop-at.invariant
    ∙ filter-both (λ r. r.id == s.id) (λ r. has_id_of (take (at - start) (drop start order)) r) (λ r. has_id_of (take (at + 1 - start) (drop start order)) r) c.args.records
    (λ r. ids-more order start at s c.at.result.now r c.loop-at.auto.at within (c.value.ensures ∙ c.at.ensures))

pub returns : goal.returns
returns c =
    let start : ℕ = c.args.start in
    let all : c.loop-at.at ≡ c.args.end = omega (arith, c.requires.from) in
    c.loop-at.invariant ∙ ap (λ n. filter (λ r. not (has_id_of (take (n - start) (drop start c.args.order.now.shapes)) r)) c.args.records) all
