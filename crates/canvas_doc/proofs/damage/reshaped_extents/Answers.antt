use Rattle.std.proofs.Common.{◌≡◌, List, sym, ap}
use Rattle.canvas_record.specs.declared.records.Record.{Record}
use Rattle.canvas_record.specs.Contents.{Contents}
use Rattle.canvas_record.specs.Tree.{IsInLimits}
use Rattle.canvas_doc.proofs.extents.BothExtents.{leaf-found, round-both}
use Rattle.canvas_doc.proofs.extents.Extents.{on-page}
use Rattle.canvas_doc.proofs.fitting.Fit.{found-all}
use Rattle.canvas_doc.proofs.damage.reshaped_extents.Goals as goal

pub extent_of-before-requires-clause-leaf : goal.extent_of-before-requires-clause-leaf
extent_of-before-requires-clause-leaf c = leaf-found c.args.id _ c.args.document.now c.in-Some.shape.now c.document.invariant.well_formed c.document.view_is c.in-Some.ensures

pub extent_of-before-requires-clause-limits : goal.extent_of-before-requires-clause-limits
extent_of-before-requires-clause-limits c = found-all IsInLimits c.args.id c.document.inside.records c.in-Some.shape.now c.document.invariant.well_formed.limits (sym c.in-Some.ensures)

pub extent_of-reshaped-requires-clause-leaf : goal.extent_of-reshaped-requires-clause-leaf
extent_of-reshaped-requires-clause-leaf c = leaf-found c.args.id _ c.args.document.now c.in-Some.shape.now c.document.invariant.well_formed c.document.view_is c.in-Some.ensures

pub extent_of-reshaped-requires-clause-limits : goal.extent_of-reshaped-requires-clause-limits
extent_of-reshaped-requires-clause-limits c =
    let limits : IsInLimits c.in-Some.shape.now = found-all IsInLimits c.args.id c.document.inside.records c.in-Some.shape.now c.document.invariant.well_formed.limits (sym c.in-Some.ensures) in
    record { quarter = limits.quarter; reach = limits.reach; kind = c.requires; key = limits.key }

pub returns-in-Some : goal.returns-in-Some
returns-in-Some c =
    let rs : List Record = c.args.document.now.records in
    let shape : Record = c.in-Some.shape.now in
    let all : c.document.inside.records ≡ rs = ap (λ (d : Contents). d.records) c.document.view_is in
    round-both _ c.args.document.now c.document.view_is c.args.id (λ r. record r { kind = c.args.kind.now }) shape c.in-Some.ensures c.extent_of-before.result c.extent_of-reshaped.result _
    (on-page rs c.document.inside.records shape c.way_up-up.result.pose c.extent_of-before.result all c.way_up-up.ensures.carries c.extent_of-before.ensures)
    (on-page rs c.document.inside.records (record shape { kind = c.args.kind.now }) c.way_up-up.result.pose c.extent_of-reshaped.result all c.way_up-up.ensures.carries c.extent_of-reshaped.ensures)
    c.hull.ensures.value
