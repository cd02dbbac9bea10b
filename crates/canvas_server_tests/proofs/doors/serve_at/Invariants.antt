use Rattle.canvas_server_tests.proofs.doors.serve_at.Given as goal

-- the line that is opened
abbrev pub ghosts-opened : goal.ghosts-opened
ghosts-opened g a = record { line = λ _. record { book = a.opened.head.word.book; opening = a.document; limit = 10 } }
