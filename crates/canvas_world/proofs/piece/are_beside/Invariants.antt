use Rattle.std.proofs.Common.{◌≡◌, true, take}
use Rattle.std.specs.List.{list_all}
use Rattle.canvas_world.specs.Pieces.{cuts_of}
use Rattle.canvas_world.specs.Transcript.{is_beside}
use Rattle.canvas_world.proofs.piece.are_beside.Given as goal

abbrev pub invariant-loop-piece : goal.invariant-loop-piece
invariant-loop-piece l = list_all (is_beside l.cut) (cuts_of (take l.piece-index l.pieces)) ≡ true
