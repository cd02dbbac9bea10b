use Rattle.canvas_keep_tests.proofs.runs.whole_run.Given as goal

-- the line that is opened
abbrev pub ghosts-run_at : goal.ghosts-run_at
ghosts-run_at g a = record { line = λ _. record { book = a.opened.head.word.book; opening = a.document; limit = 1000 } }
