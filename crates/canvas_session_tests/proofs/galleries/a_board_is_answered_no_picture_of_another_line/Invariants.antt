use Rattle.std.specs.Prelude.{eqb, if◌then◌else◌}
use Rattle.canvas_session_tests.proofs.galleries.a_board_is_answered_no_picture_of_another_line.Given as goal

-- the two lines that were just opened
abbrev pub ghosts-apart : goal.ghosts-apart
ghosts-apart g a = record {
  line = λ n. if eqb n 3 then (record { book = a.first.head.word.book; opening = a.one; limit = 10 }) else (record { book = a.second.head.word.book; opening = a.two; limit = 10 });
}
