use Rattle.std.proofs.Common.{◌≡◌, ◌∙◌, List, Some, sym, ap, rules}
use Rattle.std.proofs.lemmas.Option.{same_Some}
use Rattle.canvas_record.specs.declared.records.Record.{Record}
use Rattle.canvas_record.specs.Contents.{Contents, record_of}
use Rattle.canvas_record.specs.Damage.{extent_on_page}
use Rattle.canvas_record.specs.Tree.{IsInLimits}
use Rattle.canvas_doc.proofs.extents.BothExtents.{leaf-found, round-both, same-place}
use Rattle.canvas_doc.proofs.extents.Extents.{on-page}
use Rattle.canvas_doc.proofs.fitting.Fit.{found-all}
use Rattle.canvas_doc.proofs.damage.moved_extents.Goals as goal

pub extent_of-before-requires-clause-leaf : goal.extent_of-before-requires-clause-leaf
extent_of-before-requires-clause-leaf c = leaf-found c.args.id _ c.args.document.now c.in-Some.shape.now c.document.invariant.well_formed c.document.view_is c.in-Some.ensures

pub extent_of-before-requires-clause-limits : goal.extent_of-before-requires-clause-limits
extent_of-before-requires-clause-limits c = found-all IsInLimits c.args.id c.document.inside.records c.in-Some.shape.now c.document.invariant.well_formed.limits (sym c.in-Some.ensures)

pub extent_of-moved-requires-clause-leaf : goal.extent_of-moved-requires-clause-leaf
extent_of-moved-requires-clause-leaf c = leaf-found c.args.id _ c.args.document.now c.in-Some.shape.now c.document.invariant.well_formed c.document.view_is c.in-Some.ensures

pub extent_of-moved-requires-clause-limits : goal.extent_of-moved-requires-clause-limits
extent_of-moved-requires-clause-limits c = found-all IsInLimits c.args.id c.document.inside.records c.in-Some.shape.now c.document.invariant.well_formed.limits (sym c.in-Some.ensures)

pub returns-else-eq : goal.returns-else-eq
returns-else-eq c =
    let rs : List Record = c.args.document.now.records in
    let shape : Record = c.in-Some.shape.now in
    let all : c.document.inside.records ≡ rs = ap (λ (d : Contents). d.records) c.document.view_is in
    round-both _ c.args.document.now c.document.view_is c.args.id (λ r. record r { place = c.args.place.now }) shape c.in-Some.ensures c.extent_of-before.result c.extent_of-moved.result _
    (on-page rs c.document.inside.records shape c.way_up-up.result.pose c.extent_of-before.result all c.way_up-up.ensures.carries c.extent_of-before.ensures)
    (on-page rs c.document.inside.records (record shape { place = c.args.place.now }) c.way_up-new_up.result.pose c.extent_of-moved.result all c.way_up-new_up.ensures.carries c.extent_of-moved.ensures)
    c.hull.ensures.value

pub returns-then-eq : goal.returns-then-eq
returns-then-eq c = λ r e.
    let rs : List Record = c.args.document.now.records in
    let shape : Record = c.in-Some.shape.now in
    let found : Some shape ≡ record_of c.args.id rs = c.in-Some.ensures ∙ ap (λ (d : Contents). record_of c.args.id d.records) c.document.view_is in
    let same : shape ≡ r = same_Some shape r (found ∙ e) in
    let parent : shape.place.parent ≡ c.args.place.now.parent = search rules in
    on-page rs c.document.inside.records shape c.way_up-up.result.pose c.extent_of-before.result (ap (λ (d : Contents). d.records) c.document.view_is) c.way_up-up.ensures.carries c.extent_of-before.ensures ∙ ap (extent_on_page rs) found
    ∙ same-place c.args.id rs r c.args.place.now e (ap (λ (s : Record). s.place.parent) (sym same) ∙ parent)
