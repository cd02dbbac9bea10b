use Rattle.canvasd.proofs.serving.serve_generation.Given as goal

-- the line that is opened here
abbrev pub ghosts-serve_line : goal.ghosts-serve_line
ghosts-serve_line g a = record { line = λ _. record { book = a.opened.head.word.book; opening = a.document; limit = a.limit } }
