use Rattle.canvas_world.proofs.Runs.{IsAlong}
use Rattle.canvas_world.proofs.running.run.Given as goal

abbrev pub invariant-loop-event : goal.invariant-loop-event
invariant-loop-event l = IsAlong l.start l.seats l.events l.event-index l.world l.entries.items
