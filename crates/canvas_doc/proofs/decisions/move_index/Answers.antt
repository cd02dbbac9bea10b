use Rattle.std.proofs.Common.{◌∙◌, ap, subst, sym}
use Rattle.canvas_record.specs.Contents.{Contents, IsWellFormed, record_of}
use Rattle.canvas_doc.proofs.decisions.move_index.Goals as goal

pub height_of-requires-clause-well_formed : goal.height_of-requires-clause-well_formed
height_of-requires-clause-well_formed c = subst IsWellFormed c.document.view_is c.document.invariant.well_formed

pub height_of-requires-clause-found : goal.height_of-requires-clause-found
height_of-requires-clause-found c = sym (ap (λ (d : Contents). record_of c.args.id d.records) c.document.view_is) ∙ sym c.in-Some.ensures
