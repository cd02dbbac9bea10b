use Rattle.std.proofs.Common.{rules, ◌≡◌, ◌<◌, Some, sym, ap, ◌∙◌, length}
use Rattle.std.specs.Option.{option_copied}
use Rattle.canvas_doc.specs.Listed.{position_of}
use Rattle.canvas_doc.proofs.restoring.Leads.{position_of-within, record_of-position, record_of-nowhere}
use Rattle.canvas_doc.proofs.restored.record_of.Goals as goal

pub offset_bounds-records-position : goal.offset_bounds-records-position
offset_bounds-records-position c =
    let found : position_of c.args.id c.args.records.now ≡ Some c.in-Some.position.now = sym (c.requires c.args.id) ∙ sym c.get.ensures.value ∙ ap option_copied c.in-Some.is in
    let within : c.in-Some.position.now < length c.args.records.now = position_of-within c.args.id c.args.records.now c.in-Some.position.now found in
    search rules

pub bounds-records-position : goal.bounds-records-position
bounds-records-position c =
    position_of-within c.args.id c.args.records.now c.in-Some.position.now (sym (c.requires c.args.id) ∙ sym c.get.ensures.value ∙ ap option_copied c.in-Some.is)

pub returns-in-Some : goal.returns-in-Some
returns-in-Some c =
    ap Some c.index-records-position.is
    ∙ sym (record_of-position c.args.id c.args.records.now c.in-Some.position.now c.index-records-position.result (sym (c.requires c.args.id) ∙ sym c.get.ensures.value ∙ ap option_copied c.in-Some.is))

pub returns-in-None : goal.returns-in-None
returns-in-None c = sym (record_of-nowhere c.args.id c.args.records.now (sym (c.requires c.args.id) ∙ sym c.get.ensures.value ∙ ap option_copied c.in-None.is))
