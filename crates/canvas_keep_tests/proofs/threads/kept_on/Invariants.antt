use Rattle.canvas_keep_tests.proofs.threads.kept_on.Given as goal

-- the line that is opened
abbrev pub ghosts-kept_at : goal.ghosts-kept_at
ghosts-kept_at g a = record { line = λ _. record { book = a.opened.head.word.book; opening = a.document; limit = 1000 } }
