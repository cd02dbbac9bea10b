use Rattle.canvas_line.proofs.seat.Seat.meet.Goals as goal

pub returns-clause-met : goal.returns-clause-met
returns-clause-met g c = rw (← c.self.view_is, ← c.other.view_is) c.meet_at.ensures.met
