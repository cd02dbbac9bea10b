use Rattle.canvas_session_tests.proofs.boards.refusals_change_nothing.Given as goal

-- the line that is opened
abbrev pub ghosts-keeps : goal.ghosts-keeps
ghosts-keeps g a = record { line = λ _. record { book = a.opened.head.word.book; opening = a.document; limit = 2 } }
