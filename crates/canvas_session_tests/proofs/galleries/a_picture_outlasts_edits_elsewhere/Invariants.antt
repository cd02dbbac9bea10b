use Rattle.canvas_session_tests.proofs.galleries.a_picture_outlasts_edits_elsewhere.Given as goal

-- the line that is opened
abbrev pub ghosts-outlasts : goal.ghosts-outlasts
ghosts-outlasts g a = record { line = λ _. record { book = a.opened.head.word.book; opening = a.document; limit = 1000 } }
