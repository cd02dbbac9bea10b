use Rattle.canvas_session_tests.proofs.sessions.a_session_byte_by_byte.Given as goal

-- the line that is opened
abbrev pub ghosts-byte_by_byte : goal.ghosts-byte_by_byte
ghosts-byte_by_byte g a = record { line = λ _. record { book = a.opened.head.word.book; opening = a.document; limit = 10 } }
