use Rattle.canvas_session_tests.proofs.memory.two_boards_share_pictures_with_little_memory.Given as goal

-- the line that is opened
abbrev pub ghosts-share : goal.ghosts-share
ghosts-share g a = record { line = λ _. record { book = a.opened.head.word.book; opening = a.document; limit = 10 } }
