use Rattle.canvas_keep_tests.proofs.runs.reopened.Given as goal

-- the line that is opened
abbrev pub ghosts-goes_on : goal.ghosts-goes_on
ghosts-goes_on g a = record { line = λ _. record { book = a.opened.head.word.book; opening = a.document; limit = 1000 } }
