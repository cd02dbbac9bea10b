-- The order of records by place: by the parent, and the children of a parent from front to back.
use Rattle.std.specs.Prelude.{ℕ, ◌≡◌, ◌≤◌, ◌-◌, List, true, false, All, length, filter, take, drop}
use Rattle.std.specs.List.{Contains}
use Rattle.std.specs.List.Sorted.{IsStrictlySortedBy}
use Rattle.std.specs.Option.{option_cmp}
use Rattle.std.specs.Ordering.{nat_cmp, ordering_then, is_lt}
use Rattle.std.specs.Cmp.Lexicographic.{slice_cmp}
use Rattle.std.specs.declared.cmp.Ordering.{Ordering}
use Rattle.canvas_doc.specs.declared.bounds.Bounds.{Bounds}
use Rattle.canvas_record.specs.declared.records.Parent.{Parent}
use Rattle.canvas_record.specs.declared.records.Place.{Place}
use Rattle.canvas_record.specs.declared.records.Record.{Record}
use Rattle.canvas_doc.specs.Bounds.{AreBounds}
use Rattle.canvas_record.specs.Children.{is_child}
use Rattle.canvas_record.specs.Contents.{Contents, IsWellFormed}
use Rattle.canvas_doc.specs.Listed.{holder_of}

-- the page before all shapes, and these by their ids
abbrev pub by_parent : Parent → Parent → Ordering
by_parent p q = option_cmp nat_cmp (holder_of p) (holder_of q)

-- by the parent, and under one parent the greater index first
abbrev pub by_place : Place → Place → Ordering
by_place a b = ordering_then (by_parent a.parent b.parent) (slice_cmp nat_cmp b.index a.index)

-- the place of one record comes before that of another
abbrev pub comes_first : Record → Record → Ordering
comes_first r s = by_place r.place s.place

-- the same records, each with a place after the one before it
pub record IsInPlaceOrder (order rs : List Record) : Type 0 where
  pub long : length order ≡ length rs
  pub listed : All (Contains rs) order
  pub complete : All (Contains order) rs
  pub rising : IsStrictlySortedBy comes_first order

-- a well-formed document, the order of its records, and their bounds in this order
pub record IsKeptInOrder (d : Contents) (order : List Record) (bounds : List Bounds) : Type 0 where
  pub well_formed : IsWellFormed d
  pub in_order : IsInPlaceOrder order d.records
  pub bounded : AreBounds order bounds

-- the children of p stand in the order from low up to high
pub record AreChildrenWithin (p : Parent) (order : List Record) (low high : ℕ) : Type 0 where
  pub from : low ≤ high
  pub bound : high ≤ length order
  pub are : take (high - low) (drop low order) ≡ filter (is_child p) order

-- so many records of the order, and no more, come before a place
pub record IsPlaceOf (place : Place) (order : List Record) (at : ℕ) : Type 0 where
  pub bound : at ≤ length order
  pub before : All (λ r. is_lt (by_place r.place place) ≡ true) (take at order)
  pub behind : All (λ r. is_lt (by_place r.place place) ≡ false) (drop at order)
