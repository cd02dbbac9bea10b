use Rattle.std.proofs.Common.{◌∙◌, ◌++◌, Bor, List, ap, append-nil, map, sym}
use Rattle.canvas_record.specs.declared.records.Record.{Record}
use Rattle.canvas_doc.proofs.siblings.Sorting.{record_of}
use Rattle.canvas_doc.proofs.lists.Listing.{one-more}
use Rattle.canvas_doc.proofs.copies.in_order.Goals as goal

pub loop-shape-init : goal.loop-shape-init
loop-shape-init c =
    ap (λ (bs : List (Bor Record)). map record_of bs ++ c.into_iter-shape-iterator.result) c.in_ok-all.ensures.items ∙ c.into_iter-shape-iterator.ensures.into_iter_gives ∙ c.iter-shape-items.ensures.items

pub loop-shape-preserved : goal.loop-shape-preserved
loop-shape-preserved c =
    one-more record_of c.loop-shape.all.items c.push.new.self.items c.value.result c.in-Some.shape.now c.loop-shape.shape-iterator c.next.new.self c.args.records.now
    c.value.ensures c.in_ok-push.ensures.items c.in-Some.ensures.steps c.loop-shape.invariant

pub returns : goal.returns
returns c =
    sym (append-nil (map record_of c.loop-shape.all.items)) ∙ ap (λ (rs : List Record). map record_of c.loop-shape.all.items ++ rs) (sym c.in-None.ensures.steps.0) ∙ c.loop-shape.invariant
