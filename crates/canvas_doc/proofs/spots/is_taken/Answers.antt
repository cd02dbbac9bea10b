use Rattle.std.proofs.Common.{◌≡◌, ◌∙◌, ap, sym}
use Rattle.std.specs.List.{list_any}
use Rattle.canvas_record.specs.Contents.{Contents}
use Rattle.canvas_record.specs.Siblings.{siblings, is_taken}
use Rattle.canvas_doc.proofs.siblings.Taken.{takes, taken-here, taken-nowhere, taken-listed}
use Rattle.canvas_doc.proofs.spots.is_taken.Goals as goal
use Rattle.canvas_doc.proofs.spots.is_taken.Goals.{After-get}

listed : (c : After-get) → list_any (takes c.args.own (record { parent = c.args.parent; index = c.copy.result })) c.document.inside.order.shapes ≡ is_taken c.args.key.now (siblings c.args.own c.args.parent c.args.document.now.records)
listed c =
    taken-listed c.args.own (record { parent = c.args.parent; index = c.copy.result }) c.document.inside.order.shapes c.document.inside.records c.document.invariant.in_order
    ∙ ap (λ key. is_taken key (siblings c.args.own c.args.parent c.document.inside.records)) c.copy.ensures
    ∙ ap (λ (d : Contents). is_taken c.args.key.now (siblings c.args.own c.args.parent d.records)) c.document.view_is

pub returns-in-Some-clause-value : goal.returns-in-Some-clause-value
returns-in-Some-clause-value c =
    c.is_sibling_at.ensures
    ∙ ap (takes c.args.own (record { parent = c.args.parent; index = c.copy.result })) c.value.ensures
    ∙ sym (taken-here c.args.own (record { parent = c.args.parent; index = c.copy.result }) c.document.inside.order.shapes c.position_in.result c.in-Some.shape.now c.document.invariant.in_order.rising c.position_in.ensures (sym c.in-Some.ensures))
    ∙ listed (goal.at.returns-in-Some-clause-value c).After-get

pub returns-in-None-clause-value : goal.returns-in-None-clause-value
returns-in-None-clause-value c =
    sym (taken-nowhere c.args.own (record { parent = c.args.parent; index = c.copy.result }) c.document.inside.order.shapes c.position_in.result c.position_in.ensures (sym c.in-None.ensures))
    ∙ listed (goal.at.returns-in-None-clause-value c).After-get
