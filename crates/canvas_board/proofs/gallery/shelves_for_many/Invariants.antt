use Rattle.std.proofs.Common.{◌≡◌, vec_len}
use Rattle.canvas_board.proofs.gallery.shelves_for_many.Given as goal

abbrev pub invariant-loop : goal.invariant-loop
invariant-loop g l = vec_len l.shelves ≡ l.counter
