use Rattle.std.proofs.Common.{◌≡◌, ◌∙◌, sym, ap, true, cond, Bool, Some, None, List}
use Rattle.canvas_key.specs.Between.{key_between}
use Rattle.canvas_record.specs.declared.records.Parent.{Parent}
use Rattle.canvas_record.specs.declared.records.Record.{Record}
use Rattle.canvas_record.specs.Contents.{Contents, record_of}
use Rattle.canvas_record.specs.Siblings.{is_sibling, siblings, least_above, index_over, with_room}
use Rattle.canvas_doc.proofs.siblings.Neighbours.{found-contained, sibling-parent}
use Rattle.canvas_doc.proofs.siblings.Spotted.{found-filter, if_passes}
use Rattle.canvas_doc.proofs.spots.index_over.Goals as goal
use Rattle.canvas_doc.proofs.spots.index_over.Goals.{After-find}

-- the record of the id among the siblings
among : (c : After-find) → record_of c.args.id (siblings c.args.own c.args.parent c.args.document.now.records) ≡ if_passes (is_sibling c.args.own c.args.parent) (record_of c.args.id c.document.inside.records)
among c =
    sym (ap (λ (d : Contents). record_of c.args.id (siblings c.args.own c.args.parent d.records)) c.document.view_is)
    ∙ found-filter c.args.id (is_sibling c.args.own c.args.parent) c.document.inside.records c.document.invariant.well_formed.rising

pub next_above-high-requires : goal.next_above-high-requires
next_above-high-requires c =
    found-contained c.args.id c.args.document.now.records c.in-Some.shape.now (sym (ap (λ (d : Contents). record_of c.args.id d.records) c.document.view_is) ∙ sym c.in-Some.ensures)

pub returns-then-is_sibling-clause-value : goal.returns-then-is_sibling-clause-value
returns-then-is_sibling-clause-value c =
    let r : Record = c.in-Some.shape.now in
    let rs : List Record = c.args.document.now.records in
    let test : Record → Bool = is_sibling c.args.own c.args.parent in
    let passes : test r ≡ true = sym c.is_sibling.ensures ∙ c.if-is_sibling.true in
    let found : record_of c.args.id (siblings c.args.own c.args.parent rs) ≡ Some r =
    among (goal.at.returns-then-is_sibling-clause-value c).After-find ∙ ap (if_passes test) (sym c.in-Some.ensures) ∙ ap (λ b. cond b (Some r) None) passes in
    c.key_between.ensures.value
    ∙ ap (λ o. with_room (key_between (Some r.place.index) o)) (c.next_above-high.ensures.value ∙ ap (λ (p : Parent). least_above (Some r.place.index) (siblings c.args.own p rs)) (sibling-parent c.args.own c.args.parent r passes))
    ∙ ap (λ o. index_over o (siblings c.args.own c.args.parent rs)) (sym found)

pub returns-else-is_sibling-clause-value : goal.returns-else-is_sibling-clause-value
returns-else-is_sibling-clause-value c =
    let r : Record = c.in-Some.shape.now in
    let test : Record → Bool = is_sibling c.args.own c.args.parent in
    let none : record_of c.args.id (siblings c.args.own c.args.parent c.args.document.now.records) ≡ None =
    among (goal.at.returns-else-is_sibling-clause-value c).After-find ∙ ap (if_passes test) (sym c.in-Some.ensures) ∙ ap (λ b. cond b (Some r) None) (sym c.is_sibling.ensures ∙ c.if-is_sibling.false) in
    ap (λ o. index_over o (siblings c.args.own c.args.parent c.args.document.now.records)) (sym none)

pub returns-in-None-clause-value : goal.returns-in-None-clause-value
returns-in-None-clause-value c =
    let none : record_of c.args.id (siblings c.args.own c.args.parent c.args.document.now.records) ≡ None =
    among (goal.at.returns-in-None-clause-value c).After-find ∙ ap (if_passes (is_sibling c.args.own c.args.parent)) (sym c.in-None.ensures) in
    ap (λ o. index_over o (siblings c.args.own c.args.parent c.args.document.now.records)) (sym none)
