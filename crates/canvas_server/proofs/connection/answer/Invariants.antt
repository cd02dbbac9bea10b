use Rattle.canvas_server.proofs.connection.answer.Given as goal

-- what the writer holds, and what the gate has settled
abbrev pub ghosts-answer_gated : goal.ghosts-answer_gated
ghosts-answer_gated g a = record { begun = g.W.Write.contents a.writer; settled = g.G.Settles.settled a.gate.now }
