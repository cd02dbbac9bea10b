use Rattle.canvas_session_tests.proofs.exports.two_boards_export_one_text.Given as goal

-- the line that is opened
abbrev pub ghosts-both_export : goal.ghosts-both_export
ghosts-both_export g a = record { line = λ _. record { book = a.opened.head.word.book; opening = a.document; limit = 10 } }
