use Rattle.std.proofs.Common.{◌≡◌, ◌<◌, ◌≤◌, List, [], true, arith, refl, subst, sym, lit≤, lit<}
use Rattle.std.specs.List.{Contains}
use Rattle.std.proofs.lemmas.List.Elements.{All-nil}
use Rattle.std.proofs.lemmas.Option.{slice_get_within}
use Rattle.canvas_record.specs.declared.records.Record.{Record}
use Rattle.canvas_doc.specs.Bounds.{AreBounds}
use Rattle.canvas_record.specs.Contents.{IsWellFormed, reaches_page}
use Rattle.canvas_doc.specs.Placements.{Placements}
use Rattle.canvas_doc.specs.PlaceOrder.{IsInPlaceOrder, IsKeptInOrder}
use Rattle.canvas_record.specs.Tree.{IsInLimits}
use Rattle.canvas_doc.proofs.places.ByPlace.{sorted-from}
use Rattle.canvas_doc.proofs.Document.empty.Goals as goal

no-records : IsWellFormed (record { records = []; next = 1 })
no-records = record {
  next_above = lit≤ tt;
  next_below = lit< tt;
  few = lit≤ tt;
  rising = tt;
  ids = All-nil (λ (r : Record). (1 ≤ r.id) × (r.id < 1));
  limits = All-nil IsInLimits;
  places = tt;
  grounded = All-nil (λ (r : Record). reaches_page 31 [] r.place.parent ≡ true);
}

none-in_order : IsInPlaceOrder [] []
none-in_order = record {
  long = refl;
  listed = All-nil (Contains []);
  complete = All-nil (Contains []);
  rising = sorted-from [] (λ i j d l m. absurd (omega arith));
}

none-bounded : AreBounds [] []
none-bounded = record {
  long = refl;
  own = λ k r b e f h. (let no = slice_get_within [] k r e in absurd (omega arith));
  below = λ i j r s b c e f g h m n k. (let no = slice_get_within [] i r e in absurd (omega arith));
}

pub invariant_of-result : goal.invariant_of-result
invariant_of-result c =
    subst (λ (rs : List Record). IsKeptInOrder (record { records = rs; next = 1 }) c.empty-2.result.shapes c.empty-2.result.bounds) (sym c.empty.ensures)
    (subst (λ (p : Placements). IsKeptInOrder (record { records = []; next = 1 }) p.shapes p.bounds) (sym c.empty-2.ensures) (record { well_formed = no-records; in_order = none-in_order; bounded = none-bounded }))
