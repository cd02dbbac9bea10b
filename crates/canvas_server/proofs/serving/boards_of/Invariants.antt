use Rattle.std.proofs.Common.{◌≡◌, length, vec_len}
use Rattle.canvas_server.proofs.serving.boards_of.Given as goal

abbrev pub invariant-loop-seat : goal.invariant-loop-seat
invariant-loop-seat g l = vec_len l.boards ≡ length l.yielded
