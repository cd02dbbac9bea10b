use Rattle.canvas_keep_tests.proofs.failing.settled.Given as goal

-- the line that is opened
abbrev pub ghosts-settled_at : goal.ghosts-settled_at
ghosts-settled_at g a = record { line = λ _. record { book = a.opened.head.word.book; opening = a.document; limit = 1000 } }
