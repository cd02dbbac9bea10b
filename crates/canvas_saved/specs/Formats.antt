-- The formats of saved documents.
use Rattle.std.specs.Prelude.{ℕ, ◌==◌, Option, Some, None, if◌then◌else◌}
use Rattle.canvas_record.specs.Contents.{most_records}
use Rattle.canvas_saved.specs.declared.formats.Format.{Format}
use Rattle.canvas_saved.specs.declared.formats.Format.TheVariants.{One, Two}

-- the number of a format
abbrev pub number_of : Format → ℕ
number_of One = 1
number_of Two = 2

-- the format of a number
abbrev pub format_numbered : ℕ → Option Format
format_numbered n = if n == 1 then Some One else (if n == 2 then Some Two else None)

-- the most records of a format
abbrev pub most_of : Format → ℕ
most_of One = 4096
most_of Two = most_records
