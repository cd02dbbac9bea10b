use Rattle.canvas_session_tests.proofs.galleries.boards_are_answered_while_one_edits.Given as goal

-- the line that is opened
abbrev pub ghosts-crowd : goal.ghosts-crowd
ghosts-crowd g a = record { line = λ _. record { book = a.opened.head.word.book; opening = a.document; limit = 100 } }
