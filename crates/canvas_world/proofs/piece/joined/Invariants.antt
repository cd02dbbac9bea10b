use Rattle.std.proofs.Common.{◌≡◌, true}
use Rattle.canvas_plane.specs.declared.windows.Window.{Window}
use Rattle.canvas_record.specs.Contents.{Contents}
use Rattle.canvas_record.specs.Picture.{colour}
use Rattle.canvas_paint.specs.Pictures.{rows_of}
use Rattle.canvas_paint.specs.Strips.{strip_start}
use Rattle.canvas_world.specs.Pieces.{ArePainted, cuts_of}
use Rattle.canvas_world.specs.Transcript.{has_below}
use Rattle.canvas_world.proofs.piece.joined.Given as goal

abbrev pub invariant-loop-k : goal.invariant-loop-k
invariant-loop-k l = record {
  there : has_below l.k l.n (cuts_of l.pieces) ≡ true;
  rows : (document : Contents) (window : Window) → ArePainted document window l.pieces → l.bytes.items ≡ rows_of (colour document.records) window 0 (strip_start window.h l.k l.n);
}
