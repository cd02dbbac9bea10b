use Rattle.std.proofs.Common.{◌∙◌, ap, sym}
use Rattle.canvas_record.specs.Contents.{Contents, record_of}
use Rattle.canvas_doc.proofs.fits.can_be_moved.Goals as goal

pub lies_too_deep-requires : goal.lies_too_deep-requires
lies_too_deep-requires c = sym (ap (λ (d : Contents). record_of c.args.id d.records) c.document.view_is) ∙ sym c.in-Some.ensures
