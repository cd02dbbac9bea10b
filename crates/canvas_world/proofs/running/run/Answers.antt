use Rattle.std.proofs.Common.{arith, subst, sym}
use Rattle.canvas_world.specs.Tiles.{ShowOneHistory}
use Rattle.canvas_world.proofs.Runs.{along-all, along-more, along-none}
use Rattle.canvas_world.proofs.running.run.Goals as goal

pub loop-event-init : goal.loop-event-init
loop-event-init c = along-none c.args.start.now c.args.seats c.args.events.now c.in_ok-world.world c.new-entries.result.items c.in_ok-world.ensures.world c.in_ok-world.ensures.version c.new-entries.ensures.items

pub loop-event-preserved : goal.loop-event-preserved
loop-event-preserved c =
    along-more c.args.start.now c.args.seats c.args.events.now c.loop-event.event-index c.loop-event.world c.step.new.self c.event-item.result c.in_ok-entry.entry c.loop-event.entries.items c.push.new.self.items
    c.loop-event-test.true c.event-item.is c.in_ok-entry.ensures.entry c.in_ok-entry.ensures.version c.in_ok-push.ensures.items c.loop-event.invariant

pub returns-clause-tiles : goal.returns-clause-tiles
returns-clause-tiles c =
    subst (ShowOneHistory c.args.start.now c.args.events.now) (sym c.from_vec.ensures)
    (along-all c.args.start.now c.args.seats c.args.events.now c.loop-event.event-index c.loop-event.world c.loop-event.entries.items (omega arith) c.loop-event.invariant)
