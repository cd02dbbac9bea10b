use Rattle.canvas_session_tests.proofs.boards.a_square_moves_away.Given as goal

-- the line that is opened
abbrev pub ghosts-moves_away : goal.ghosts-moves_away
ghosts-moves_away g a = record { line = λ _. record { book = a.opened.head.word.book; opening = a.document; limit = 10 } }
