use Rattle.std.proofs.Common.{rules}
use Rattle.std.proofs.lemmas.Fn.{always_returns_same}
use Rattle.std.proofs.lemmas.List.Sorted.{IsNonDecreasingBy-from_sort_by_key}
use Rattle.canvas_record.specs.declared.records.Record.{Record}
use Rattle.canvas_doc.proofs.restoring.InOrder.{sorted-by_id}
use Rattle.canvas_doc.proofs.restored.by_id.Goals as goal

pub returns : goal.returns
returns c =
    sorted-by_id c.args.records.items c.sort_by_key.new.self.items
    (IsNonDecreasingBy-from_sort_by_key (λ (r : Record). r.id) _ c.in_ok-sort_by_key.ensures.sorted (λ a r q k. search rules))
    (c.sort_by_key.ensures.stable (λ (r : Record). r.id) (always_returns_same _ _ _ (λ a r f k. search rules)))
