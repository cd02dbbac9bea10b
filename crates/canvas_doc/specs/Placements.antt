-- Records by place, and their bounds in the same positions.
use Rattle.std.specs.Prelude.{List, map}
use Rattle.canvas_list.specs.declared.in_place.ItemChange.{ItemChange}
use Rattle.canvas_list.specs.declared.in_place.ItemChange.TheVariants.{Replace, Remove, Insert}
use Rattle.canvas_doc.specs.declared.bounds.Bounds.{Bounds}
use Rattle.canvas_doc.specs.declared.placed_shapes.PlacedShape.{PlacedShape}
use Rattle.canvas_record.specs.declared.records.Record.{Record}

pub record Placements : Type 0 where
  pub shapes : List Record
  pub bounds : List Bounds

abbrev pub placements_of : List PlacedShape → Placements
placements_of all = record { shapes = map (λ placed. placed.shape) all; bounds = map (λ placed. placed.bounds) all }

-- what a change of a record with its bounds is for the records
abbrev pub shape_change : ItemChange PlacedShape → ItemChange Record
shape_change (Replace placed) = Replace placed.shape
shape_change Remove = Remove
shape_change (Insert placed) = Insert placed.shape

-- and for the bounds
abbrev pub bounds_change : ItemChange PlacedShape → ItemChange Bounds
bounds_change (Replace placed) = Replace placed.bounds
bounds_change Remove = Remove
bounds_change (Insert placed) = Insert placed.bounds
