-- When records form a page tree.
use Rattle.std.specs.Prelude.{◌≡◌, ◌≢◌, ◌≤◌, ◌^◌, List, [], ◌∷◌, true}
use Rattle.std.specs.List.{AllByRecursion}
use Rattle.canvas_key.specs.Text.{IsKey}
use Rattle.canvas_plane.specs.Motion.{reach_of}
use Rattle.canvas_shape.specs.Inside.{IsSound}
use Rattle.canvas_record.specs.declared.records.Record.{Record}
use Rattle.canvas_record.specs.Children.{same_parent}

-- within the product's limits
pub record IsInLimits (r : Record) : Type 0 where
  pub quarter : r.pose.quarter ≤ 3
  pub reach : reach_of r.pose ≤ 2 ^ 20
  pub kind : IsSound r.kind
  pub key : IsKey r.place.index

-- not the place of another record
abbrev pub IsElsewhere : Record → Record → Type 0
IsElsewhere r s = same_parent s.place.parent r.place.parent ≡ true → s.place.index ≢ r.place.index

-- no record has the place of a later one
abbrev pub HavePlaces : List Record → Type 0
HavePlaces [] = Unit {0}
HavePlaces (r ∷ rs) = AllByRecursion (IsElsewhere r) rs × HavePlaces rs
