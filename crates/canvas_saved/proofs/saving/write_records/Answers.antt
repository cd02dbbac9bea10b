use Rattle.std.proofs.Common.{◌≡◌, ◌∙◌, ap}
use Rattle.canvas_record.specs.Contents.{Contents}
use Rattle.canvas_json.specs.Saved.{saved_text_of}
use Rattle.canvas_saved.specs.declared.formats.Format.TheVariants.{One, Two}
use Rattle.canvas_saved.specs.Opened.{opened, records_read}
use Rattle.canvas_saved.specs.Saved.{contents_with}
use Rattle.canvas_saved.proofs.JsonText.{document-json}
use Rattle.canvas_saved.proofs.Opens.{kept-held, limits-held, text-opens, text-read_back}
use Rattle.canvas_saved.proofs.saving.write_records.Goals as goal

pub returns-clause-saved : goal.returns-clause-saved
returns-clause-saved c =
    c.in_ok-document_text.ensures.text ∙ document-json c.args.next c.args.records.now (limits-held c.args.records.now c.requires.limits) c.in_ok-document_text.ensures.kept

pub returns-clause-opens : goal.returns-clause-opens
returns-clause-opens c =
    let d : Contents = contents_with c.args.next c.args.records.now in
    let is : c.in_ok-document_text.field-0.items ≡ saved_text_of d =
    c.in_ok-document_text.ensures.text ∙ document-json c.args.next c.args.records.now (limits-held c.args.records.now c.requires.limits) c.in_ok-document_text.ensures.kept in
    ap opened is ∙ text-opens Two d c.requires (kept-held c.args.records.now c.in_ok-document_text.ensures.kept) c.requires.few

pub returns-clause-reads : goal.returns-clause-reads
returns-clause-reads c =
    let d : Contents = contents_with c.args.next c.args.records.now in
    let is : c.in_ok-document_text.field-0.items ≡ saved_text_of d =
    c.in_ok-document_text.ensures.text ∙ document-json c.args.next c.args.records.now (limits-held c.args.records.now c.requires.limits) c.in_ok-document_text.ensures.kept in
    ap records_read is ∙ text-read_back Two d c.requires (kept-held c.args.records.now c.in_ok-document_text.ensures.kept) c.requires.few

pub returns-clause-older : goal.returns-clause-older
returns-clause-older c =
    text-opens One (contents_with c.args.next c.args.records.now) c.requires (kept-held c.args.records.now c.in_ok-document_text.ensures.kept)
