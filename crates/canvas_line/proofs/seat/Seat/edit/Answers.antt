use Rattle.canvas_line.proofs.seat.Seat.edit.Goals as goal

pub returns-clause-refused : goal.returns-clause-refused
returns-clause-refused g c = rw (← c.self.view_is) c.edit_at-answer.ensures.refused
