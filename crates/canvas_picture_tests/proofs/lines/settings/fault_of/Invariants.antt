use Rattle.canvas_picture_tests.proofs.lines.settings.fault_of.Given as goal

-- the line that is opened
abbrev pub ghosts-refused : goal.ghosts-refused
ghosts-refused g a = record { line = λ _. record { book = a.opened.head.word.book; opening = a.document; limit = a.limit } }
