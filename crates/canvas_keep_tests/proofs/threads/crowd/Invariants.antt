use Rattle.canvas_keep_tests.proofs.threads.crowd.Given as goal

-- the line that is opened
abbrev pub ghosts-crowd_at : goal.ghosts-crowd_at
ghosts-crowd_at g a = record { line = λ _. record { book = a.opened.head.word.book; opening = a.document; limit = 1000 } }
