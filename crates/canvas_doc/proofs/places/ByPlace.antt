-- Places in order.
use Rattle.std.proofs.Common.{◌≡◌, ℕ, ◌<◌, ◌+◌, List, [], ◌∷◌, sym, ap, ◌∙◌, arith, length, get_or}
use Rattle.std.specs.List.Sorted.{IsStrictlySortedBy}
use Rattle.std.specs.declared.cmp.Ordering.{Ordering}
use Rattle.std.specs.declared.cmp.Ordering.TheVariants.{Less}
use Rattle.std.specs.Cmp.{IsTotalOrder}
use Rattle.std.specs.Cmp.Lexicographic.{slice_cmp, options_total}
use Rattle.std.specs.Ordering.{nat_cmp, ordering_reverse}
use Rattle.std.proofs.lemmas.Cmp.{nat_cmp_total, nat_list_cmp_total, on_total, then_total}
use Rattle.std.proofs.lemmas.Map.Keys.{sorted_from_all_adjacent}
use Rattle.canvas_record.specs.declared.records.Place.{Place}
use Rattle.canvas_record.specs.declared.records.Record.{Record}
use Rattle.canvas_doc.specs.Listed.{holder_of}
use Rattle.canvas_doc.specs.PlaceOrder.{by_parent, by_place, comes_first}

-- the orders are total
reversed : {K : Type 0} (R : K → K → Ordering) → IsTotalOrder R → IsTotalOrder (λ x y. R y x)
reversed R o = record {
  antisymm = λ x y. o.antisymm y x;
  trans = λ x y z h k. o.trans z y x k h;
  congr = λ x y z e.
      o.antisymm z x
      ∙ ap ordering_reverse (o.congr x y z (o.antisymm x y ∙ ap ordering_reverse e))
      ∙ sym (o.antisymm z y);
}

pub by_parent-total : IsTotalOrder by_parent
by_parent-total = on_total holder_of (options_total nat_cmp_total)

pub by_place-total : IsTotalOrder by_place
by_place-total = then_total (on_total (λ (p : Place). p.parent) by_parent-total) (on_total (λ (p : Place). p.index) (reversed (slice_cmp nat_cmp) nat_list_cmp_total))

pub comes_first-total : IsTotalOrder comes_first
comes_first-total = on_total (λ (r : Record). r.place) by_place-total

-- records of which each comes before those after it
pub sorted-from : (rs : List Record) → ((i j : ℕ) (d : Record) → i < j → j < length rs → comes_first (get_or rs i d) (get_or rs j d) ≡ Less) → IsStrictlySortedBy comes_first rs
unfolding IsStrictlySortedBy
sorted-from [] h = tt
sorted-from (r ∷ rs) h = sorted_from_all_adjacent comes_first-total (r ∷ rs) r (λ k l. h k (k + 1) r (omega arith) l)
