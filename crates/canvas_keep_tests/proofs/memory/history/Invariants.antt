use Rattle.canvas_keep_tests.proofs.memory.history.Given as goal

-- the line that is opened
abbrev pub ghosts-history_at : goal.ghosts-history_at
ghosts-history_at g a = record { line = λ _. record { book = a.opened.head.word.book; opening = a.document; limit = 1000 } }
