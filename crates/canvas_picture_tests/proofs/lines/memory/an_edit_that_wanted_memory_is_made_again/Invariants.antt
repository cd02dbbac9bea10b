use Rattle.canvas_picture_tests.proofs.lines.memory.an_edit_that_wanted_memory_is_made_again.Given as goal

-- the line that is opened
abbrev pub ghosts-at_a_line : goal.ghosts-at_a_line
ghosts-at_a_line g a = record { line = λ _. record { book = a.opened.head.word.book; opening = a.document; limit = 10 } }
