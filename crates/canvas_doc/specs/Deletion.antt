-- What goes with a shape that is deleted.
use Rattle.std.specs.Prelude.{ℕ, zero, suc, ◌≤◌, ◌==◌, ◌++◌, List, [], ◌∷◌, Bool, filter, map, length}
use Rattle.std.specs.List.{list_any}
use Rattle.canvas_doc.specs.declared.bounds.Bounds.{Bounds}
use Rattle.canvas_record.specs.declared.records.Parent.TheVariants.{Shape}
use Rattle.canvas_record.specs.declared.records.Record.{Record}
use Rattle.canvas_doc.specs.Bounds.{AreBounds}
use Rattle.canvas_record.specs.Children.{is_child}
use Rattle.canvas_record.specs.Contents.{is_container, AreRising, most_records}
use Rattle.canvas_doc.specs.PlaceOrder.{IsInPlaceOrder}

-- one of the shapes is the record's parent
abbrev pub is_held : List ℕ → Record → Bool
is_held holders r = list_any (λ h. is_child (Shape h) r) holders

-- one of the records has the record's id
abbrev pub has_id_of : List Record → Record → Bool
has_id_of rs r = list_any (λ s. r.id == s.id) rs

-- the ids of the groups and frames among records
abbrev pub container_ids : List Record → List ℕ
container_ids rs = map (λ r. r.id) (filter (λ r. is_container r.kind) rs)

-- the groups and frames among the children of some shapes
abbrev pub containers_under : List Record → List ℕ → List ℕ
containers_under rs [] = []
containers_under rs (h ∷ holders) = container_ids (filter (is_child (Shape h)) rs) ++ containers_under rs holders

-- some shapes and the groups and frames below them, so many levels of them
unfoldable pub holders_below : ℕ → List Record → List ℕ → List ℕ
holders_below zero rs level = []
holders_below (suc levels) rs level = level ++ holders_below levels rs (containers_under rs level)

-- records in rising id, the same in their order by place, and their bounds in this order
pub record AreLists (records order : List Record) (bounds : List Bounds) : Type 0 where
  pub few : length order ≤ most_records
  pub rising : AreRising records
  pub in_order : IsInPlaceOrder order records
  pub bounded : AreBounds order bounds
