use Rattle.bench.proofs.seats.time.Given as goal

-- the line that is opened
abbrev pub ghosts-time_at : goal.ghosts-time_at
ghosts-time_at g a = record { line = λ _. record { book = a.opened.head.word.book; opening = a.document; limit = 1000000 } }
