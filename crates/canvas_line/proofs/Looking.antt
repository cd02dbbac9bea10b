-- A seat goes on.
use Rattle.std.proofs.Common.{ℕ, List, refl}
use mathlib.Core.List.{IsPrefix}
use Rattle.canvas_record.specs.declared.edits.Change.{Change}
use Rattle.canvas_line.specs.declared.version.Version.{Version}
use Rattle.canvas_line.specs.Trails.{Facts}
use Rattle.canvas_line.specs.Standing.{IsVersionOf}
use Rattle.canvas_line.specs.Lines.{sight_of}
use Rattle.canvas_line.specs.Seats.{Looks}

pub looks : (name : ℕ) (line : Facts) (front newer : List Change) (v : Version) → IsPrefix front newer → IsVersionOf line.opening line.limit newer v → Looks (sight_of name line front) (sight_of name line newer) v
looks name line front newer v begins is = ((begins, (is.fits, is.within), refl), is)
