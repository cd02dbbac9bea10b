use Rattle.canvas_line.proofs.seat.Seat.start_recording.Goals as goal

pub returns-clause-started : goal.returns-clause-started
returns-clause-started g c = rw (← c.self.view_is) c.start_recording_at.ensures.started
