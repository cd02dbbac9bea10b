use Rattle.canvas_picture_tests.proofs.lines.worked.a_seat_sees_the_edit_of_one_that_it_met.Given as goal

-- the line that is opened
abbrev pub ghosts-meeting : goal.ghosts-meeting
ghosts-meeting g a = record { line = λ _. record { book = a.opened.head.word.book; opening = a.document; limit = 10 } }
