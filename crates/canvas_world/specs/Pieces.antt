-- Painted strips, and what the work at one picture is seen as.
use Rattle.std.specs.Prelude.{ℕ, ◌≡◌, ◌<◌, ◌+◌, List, All, map}
use Rattle.canvas_plane.specs.declared.windows.Window.{Window}
use Rattle.canvas_record.specs.Contents.{Contents}
use Rattle.canvas_record.specs.Picture.{colour}
use Rattle.canvas_paint.specs.Pictures.{rows_of}
use Rattle.canvas_paint.specs.Strips.{strip_start}
use Rattle.canvas_world.specs.declared.cut.Cut.{Cut}
use Rattle.canvas_world.specs.declared.piece.Piece.{Piece}

-- the version and the window that a look fixed, the document at that version, and the strips painted so far
pub record Work : Type 0 where
  pub version : ℕ
  pub window : Window
  pub document : Contents
  pub cuts : List Cut

-- the rows of a strip of the picture of a window of a document
abbrev pub strip_of : Contents → Window → Cut → List ℕ
strip_of document window cut = rows_of (colour document.records) window (strip_start window.h cut.k cut.n) (strip_start window.h (cut.k + 1) cut.n)

-- each piece has the rows of its strip
abbrev pub ArePainted : Contents → Window → List Piece → Type 0
ArePainted document window pieces = All (λ p. (p.cut.k < p.cut.n) × (p.rows ≡ strip_of document window p.cut)) pieces

abbrev pub cuts_of : List Piece → List Cut
cuts_of pieces = map (λ p. p.cut) pieces
