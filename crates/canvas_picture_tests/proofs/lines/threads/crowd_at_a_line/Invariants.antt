use Rattle.canvas_picture_tests.proofs.lines.threads.crowd_at_a_line.Given as goal

-- the line that is opened
abbrev pub ghosts-crowd : goal.ghosts-crowd
ghosts-crowd g a = record { line = λ _. record { book = a.opened.head.word.book; opening = a.document; limit = 1000000 } }
