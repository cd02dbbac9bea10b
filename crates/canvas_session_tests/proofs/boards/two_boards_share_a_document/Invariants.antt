use Rattle.canvas_session_tests.proofs.boards.two_boards_share_a_document.Given as goal

-- the line that is opened
abbrev pub ghosts-share : goal.ghosts-share
ghosts-share g a = record { line = λ _. record { book = a.opened.head.word.book; opening = a.document; limit = 10 } }
