use Rattle.canvas_session_tests.proofs.boards.settings_that_are_refused.Given as goal

-- the line that is opened
abbrev pub ghosts-refuses : goal.ghosts-refuses
ghosts-refuses g a = record { line = λ _. record { book = a.opened.head.word.book; opening = a.document; limit = 10 } }
