use Rattle.std.proofs.Common.{◌≡◌, false, take}
use Rattle.std.specs.List.{list_any}
use Rattle.canvas_world.specs.Pieces.{cuts_of}
use Rattle.canvas_world.specs.Transcript.{is_cut}
use Rattle.canvas_world.proofs.piece.rows_of.Given as goal

abbrev pub invariant-loop-piece : goal.invariant-loop-piece
invariant-loop-piece l = list_any (is_cut l.cut.k l.cut.n) (cuts_of (take l.piece-index l.pieces)) ≡ false
