-- Seats at the beginning of a line.
use Rattle.std.specs.Prelude.{◌≡◌, []}
use Rattle.canvas_line.specs.Lines.{Sight}

-- at the line that the program names 1, and nothing seen
pub record IsUnused (s : Sight) : Type 0 where
  pub name : s.name ≡ 1
  pub front : s.front ≡ []
