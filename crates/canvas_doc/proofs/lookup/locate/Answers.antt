use Rattle.std.proofs.Common.{◌≡◌, ◌∙◌, rules, None, Some, ap, sym}
use Rattle.std.specs.Option.{option_copied}
use Rattle.std.proofs.lemmas.List.Sorted.{IsPartitionPoint-from_clause}
use Rattle.std.proofs.lemmas.Option.{same_Some}
use Rattle.canvas_record.specs.declared.records.Record.{Record}
use Rattle.canvas_doc.proofs.tree.Searched.{is-standing, is_less, less-parted, stands-nowhere}
use Rattle.canvas_doc.proofs.lookup.locate.Goals as goal
use Rattle.canvas_doc.proofs.lookup.locate.Goals.{in_default-via-in-Some+else-id, in_default-via-in_default}

pub returns-in-Some : goal.returns-in-Some
returns-in-Some c =
    is-standing c.args.records.now c.args.id c.found_near-found.result.at c.value.result.now c.requires
    (sym c.found_near-found.ensures.item ∙ ap option_copied c.in-Some.is ∙ ap Some (sym c.value.ensures))
    (ap (λ (r : Record). r.id) c.value.ensures ∙ sym c.id.ensures ∙ c.if-id.true)

pub returns-in_default : goal.returns-in_default
returns-in_default c =
    stands-nowhere c.args.records.now c.args.id c.found_near-found.result.at c.requires
    (IsPartitionPoint-from_clause (is_less c.args.id) c.args.records.now c.found_near-found.result.at c.found_near-found.ensures.partitioned (less-parted c.args.records.now c.args.id c.requires) (λ a r f called. search rules))
    (λ r e. elim c.in_default.branch [
      | in_default-via-in-Some+else-id w ↦
          (let same : r ≡ w.in-Some.shape.now = same_Some r w.in-Some.shape.now (sym e ∙ sym c.found_near-found.ensures.item ∙ ap option_copied w.in-Some.is) in
          λ f. w.if-id.false (w.id.ensures ∙ ap (λ (x : Record). x.id) (sym same) ∙ f))
      | in_default-via-in_default w ↦ (let clash : None ≡ Some r = sym (ap option_copied w.in_default.is) ∙ c.found_near-found.ensures.item ∙ e in λ f. cc)
    ])
