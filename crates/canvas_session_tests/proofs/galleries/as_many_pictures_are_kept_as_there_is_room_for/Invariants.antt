use Rattle.canvas_session_tests.proofs.galleries.as_many_pictures_are_kept_as_there_is_room_for.Given as goal

-- the line that is opened
abbrev pub ghosts-keeps_eight : goal.ghosts-keeps_eight
ghosts-keeps_eight g a = record { line = λ _. record { book = a.opened.head.word.book; opening = a.document; limit = 10 } }
