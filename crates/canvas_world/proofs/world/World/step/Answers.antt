use Rattle.std.proofs.Common.{arith}
use Rattle.std.proofs.lemmas.Bool.{lt-ltb}
use Rattle.canvas_world.specs.Transcript.{seat_of}
use Rattle.canvas_world.proofs.Events.{edit-seated}
use Rattle.canvas_world.proofs.world.World.step.Goals as goal

pub returns-in-Edit-clause-entry : goal.returns-in-Edit-clause-entry
returns-in-Edit-clause-entry c = edit-seated c.args.seats c.args.self.now c.edit.new.self c.args.event.now c.in-Edit.seat c.in-Edit.edit c.edit.result c.in-Edit.is
    (lt-ltb (seat_of c.args.event.now) c.args.seats (omega (arith, c.seat.ensures, c.if-seat-seats.false))) c.edit.ensures.entry
