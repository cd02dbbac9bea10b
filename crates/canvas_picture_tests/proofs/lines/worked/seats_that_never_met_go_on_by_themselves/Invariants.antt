use Rattle.canvas_picture_tests.proofs.lines.worked.seats_that_never_met_go_on_by_themselves.Given as goal

-- the line that is opened
abbrev pub ghosts-apart : goal.ghosts-apart
ghosts-apart g a = record { line = λ _. record { book = a.opened.head.word.book; opening = a.document; limit = 10 } }
