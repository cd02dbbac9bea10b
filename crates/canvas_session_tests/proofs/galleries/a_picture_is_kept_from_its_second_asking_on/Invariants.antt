use Rattle.canvas_session_tests.proofs.galleries.a_picture_is_kept_from_its_second_asking_on.Given as goal

-- the line that is opened
abbrev pub ghosts-shares : goal.ghosts-shares
ghosts-shares g a = record { line = λ _. record { book = a.opened.head.word.book; opening = a.document; limit = 10 } }
