use Rattle.canvas_session_tests.proofs.boards.versions_are_spent_first.Given as goal

-- the line that is opened
abbrev pub ghosts-spends : goal.ghosts-spends
ghosts-spends g a = record { line = λ _. record { book = a.opened.head.word.book; opening = a.document; limit = 2 } }
