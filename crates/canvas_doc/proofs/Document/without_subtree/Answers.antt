use Rattle.std.proofs.Common.{◌≡◌, ◌∙◌, ◌∷◌, ◌==◌, [], Bool, List, ap, filter, not, subst, sym}
use Rattle.canvas_record.specs.declared.records.Record.{Record}
use Rattle.canvas_record.specs.Contents.{Contents, IsWellFormed}
use Rattle.canvas_doc.specs.Deletion.{holders_below, is_held}
use Rattle.canvas_record.specs.Effect.{is_in_subtree}
use Rattle.canvas_doc.proofs.deleting.HeldBelow.{subtree-gone}
use Rattle.canvas_doc.proofs.editing.InPlace.{lists-kept}
use Rattle.canvas_doc.proofs.Document.without_subtree.Goals as goal
use Rattle.canvas_doc.proofs.Document.without_subtree.Goals.{In_ok-left}

gone : (c : In_ok-left) → c.in_ok-left.left.records ≡ filter (λ r. not (is_in_subtree c.args.id c.self.inside.records r)) c.self.inside.records
gone c =
    let rs : List Record = c.self.inside.records in
    let order : List Record = c.self.inside.order.shapes in
    let own : Record → Bool = λ r. not (r.id == c.args.id) in
    let held : Record → Bool = λ r. not (is_held (holders_below 32 order (c.args.id ∷ [])) r) in
    c.in_ok-left.ensures.records
    ∙ ap (filter own) c.in_ok-above.ensures.records
    ∙ ap (λ (l : List Record). filter own (filter held l)) c.in_ok-try_clone.ensures
    ∙ subtree-gone c.args.id rs order c.self.invariant.well_formed.rising c.self.invariant.in_order c.self.invariant.well_formed.grounded

pub invariant_of-result : goal.invariant_of-result
invariant_of-result c =
    let now : Contents = c.args.self.now in
    let e : now.records ≡ c.self.inside.records = ap (λ (d : Contents). d.records) (sym c.self.view_is) in
    let n : now.next ≡ c.self.inside.next = ap (λ (d : Contents). d.next) (sym c.self.view_is) in
    let same : filter (λ r. not (is_in_subtree c.args.id now.records r)) now.records ≡ c.in_ok-left.left.records =
    ap (λ (l : List Record). filter (λ r. not (is_in_subtree c.args.id l r)) l) e ∙ sym (gone c) in
    record {
      well_formed =
          subst (λ m. IsWellFormed (record { records = c.in_ok-left.left.records; next = m })) n
          (subst (λ (l : List Record). IsWellFormed (record { records = l; next = now.next })) same c.requires.left);
      in_order = c.in_ok-left.ensures.lists.in_order;
      bounded = c.in_ok-left.ensures.lists.bounded;
    }

pub returns : goal.returns
returns c =
    ap (λ (l : List Record). record { records = l; next = c.self.inside.next }) (gone c)
    ∙ ap (λ (d : Contents). record { records = filter (λ r. not (is_in_subtree c.args.id d.records r)) d.records; next = d.next }) c.self.view_is

pub without_below-requires-clause-lists : goal.without_below-requires-clause-lists
without_below-requires-clause-lists c = lists-kept (record { records = c.self.inside.records; next = c.self.inside.next }) c.self.inside.order c.self.invariant c.in_ok-try_clone.field-0 c.in_ok-try_clone-2.field-0 c.in_ok-try_clone.ensures c.in_ok-try_clone-2.ensures
