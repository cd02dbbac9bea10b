use Rattle.std.proofs.Common.{◌≡◌, List, ap, arith, length, rules, subst}
use Rattle.std.specs.List.Sorted.{IsPermutation}
use Rattle.std.specs.Ordering.{is_lt}
use Rattle.std.proofs.lemmas.Fn.{always_returns_same}
use Rattle.std.proofs.lemmas.List.Sorted.{ranks_by}
use Rattle.canvas_record.specs.declared.records.Record.{Record}
use Rattle.canvas_doc.specs.PlaceOrder.{comes_first}
use Rattle.canvas_doc.proofs.places.ByPlace.{comes_first-total}
use Rattle.canvas_doc.proofs.places.PlaceSorted.{sorted-in_order}
use Rattle.canvas_doc.proofs.place_order.in_place_order.Goals as goal

pub returns-clause-order : goal.returns-clause-order
returns-clause-order c =
    let rs : List Record = c.args.records.now in
    let sorted : List Record = c.sort_unstable_by.new.self.items in
    sorted-in_order sorted rs c.requires
    (subst (λ (all : List Record). IsPermutation all sorted) c.in_ok-order.ensures.all c.sort_unstable_by.ensures.permutation)
    (c.sort_unstable_by.ensures.sorted (λ r s. is_lt (comes_first r s)) (ranks_by comes_first-total (λ (r : Record). r)) (always_returns_same _ (λ a r. is_lt r ≡ is_lt (comes_first a.0.now a.1.0.now)) _ (λ a r f called. search rules)))

pub returns-clause-few : goal.returns-clause-few
returns-clause-few c = omega (arith, c.sort_unstable_by.ensures.len, ap length c.in_ok-order.ensures.all, c.shares.ensures.few)
