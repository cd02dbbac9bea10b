-- The indexes at the two ends of a list of siblings, one shape left out.
use Rattle.std.specs.Prelude.{ℕ, ◌==◌, not, List, Option, find, reverse}
use Rattle.std.specs.Option.{option_map}
use Rattle.canvas_record.specs.declared.records.Record.{Record}

-- the index of the first record that is not the shape
abbrev pub first_index : ℕ → List Record → Option (List ℕ)
first_index own rs = option_map (λ r. r.place.index) (find (λ r. not (r.id == own)) rs)

-- the index of the last record that is not the shape
abbrev pub last_index : ℕ → List Record → Option (List ℕ)
last_index own rs = first_index own (reverse rs)
