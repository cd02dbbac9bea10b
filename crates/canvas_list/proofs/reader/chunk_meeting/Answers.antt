use Rattle.std.proofs.Common.{◌<◌, arith, length}
use Rattle.canvas_list.specs.Chunks.{joined}
use Rattle.canvas_list.proofs.Joined.{take-fewer}
use Rattle.canvas_list.proofs.Stretches.{stretch-of-chunk}
use Rattle.canvas_list.proofs.reader.chunk_meeting.Goals as goal

pub returns-then-spot-chunks-clause-held : goal.returns-then-spot-chunks-clause-held
returns-then-spot-chunks-clause-held g c =
    c.nothing.ensures.held (joined c.args.chunks.now) (omega (arith, c.part_meeting-spot.ensures.start, take-fewer c.args.chunks.now c.part_meeting-spot.result.chunk))

pub returns-then-spot-chunks-clause-on : goal.returns-then-spot-chunks-clause-on
returns-then-spot-chunks-clause-on g c =
    let on = c.part_meeting-spot.ensures.on (omega (arith, c.if-spot-chunks.true, c.requires.some)) in omega (arith, on, c.nothing.ensures.start)

pub returns-clause-held : goal.returns-clause-held
returns-clause-held g c =
    let within : c.part_meeting-spot.result.chunk < length c.args.chunks.now = omega (arith, c.part_meeting-spot.ensures.within, c.if-spot-chunks.false) in
    stretch-of-chunk c.args.chunks.now c.part_meeting-spot.result.chunk c.part_meeting-spot.result.start c.index-chunks-spot.result c.items.result.now within c.part_meeting-spot.ensures.start c.index-chunks-spot.is c.items.ensures.same
