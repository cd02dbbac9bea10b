use Rattle.canvas_picture_tests.proofs.lines.seats.at_a_line.Given as goal

-- the line that is opened
abbrev pub ghosts-opened : goal.ghosts-opened
ghosts-opened g a = record { line = λ _. record { book = a.opened.head.word.book; opening = a.document; limit = a.limit } }
