use Rattle.std.proofs.Common.{◌+◌, ◌<◌, arith, length, refl}
use Rattle.canvas_list.specs.Chunks.{joined, IsRun}
use Rattle.canvas_list.proofs.Apart.{between-join}
use Rattle.canvas_list.proofs.Held.{apart-on, run-starts}
use Rattle.canvas_list.proofs.Joined.{chunk-read, take-fewer}
use Rattle.canvas_list.proofs.Runs.{run-of-part}
use Rattle.canvas_list.proofs.Stretches.{stretch-of-block}
use Rattle.canvas_list.proofs.reader.block_meeting.Goals as goal

pub returns-then-spot-blocks-clause-held : goal.returns-then-spot-blocks-clause-held
returns-then-spot-blocks-clause-held g c =
    c.nothing.ensures.held (joined c.args.blocks.now) (omega (arith, c.meeting_block-spot.ensures.start, take-fewer c.args.blocks.now c.meeting_block-spot.result.chunk))

pub returns-then-spot-blocks-clause-on : goal.returns-then-spot-blocks-clause-on
returns-then-spot-blocks-clause-on g c =
    let on = c.meeting_block-spot.ensures.on (omega (arith, c.if-spot-blocks.true, c.requires.some)) in omega (arith, on, c.nothing.ensures.start)

pub overflow_add-result : goal.overflow_add-result
overflow_add-result g c =
    let within : c.meeting_block-spot.result.chunk < length c.args.blocks.now = omega (arith, c.meeting_block-spot.ensures.within, c.if-spot-blocks.false) in
    omega (
      arith,
      c.requires.few,
      c.meeting_block-spot.ensures.start,
      c.chunk_meeting-found.ensures.held.run.within,
      take-fewer c.args.blocks.now (c.meeting_block-spot.result.chunk + 1),
      chunk-read c.args.blocks.now c.meeting_block-spot.result.chunk c.index-blocks-spot.result c.table.result.now within c.index-blocks-spot.is c.table.ensures.same,
    )

pub overflow_add-result-3 : goal.overflow_add-result-3
overflow_add-result-3 g c = omega (arith, c.requires.few, c.meeting_block-spot.ensures.start, c.count.ensures.few, take-fewer c.args.blocks.now c.meeting_block-spot.result.chunk)

pub returns-clause-held : goal.returns-clause-held
returns-clause-held g c =
    let within : c.meeting_block-spot.result.chunk < length c.args.blocks.now = omega (arith, c.meeting_block-spot.ensures.within, c.if-spot-blocks.false) in
    stretch-of-block c.args.blocks.now c.meeting_block-spot.result.chunk c.meeting_block-spot.result.start c.chunk_meeting-found.result.start c.count.result c.chunk_meeting-found.result.beyond_start c.index-blocks-spot.result c.table.result.now c.chunk_meeting-found.result.items.now (joined c.chunk_meeting-found.result.behind.now) (joined c.chunk_meeting-found.result.beyond.now)
    within c.meeting_block-spot.ensures.start c.index-blocks-spot.is c.table.ensures.same c.count.ensures.count c.chunk_meeting-found.ensures.held

pub returns-clause-apart : goal.returns-clause-apart
returns-clause-apart g c =
    let within : c.meeting_block-spot.result.chunk < length c.args.blocks.now = omega (arith, c.meeting_block-spot.ensures.within, c.if-spot-blocks.false) in
    let outer : IsRun (joined c.args.blocks.now) c.table.result.now c.meeting_block-spot.result.start = run-of-part c.args.blocks.now (joined c.args.blocks.now) c.meeting_block-spot.result.chunk c.meeting_block-spot.result.start c.index-blocks-spot.result c.table.result.now within c.meeting_block-spot.ensures.start refl c.index-blocks-spot.is c.table.ensures.same in
    between-join (g.T.Share.lies_apart c.args.sought.now) (joined c.args.blocks.now) 0 c.meeting_block-spot.result.start (c.meeting_block-spot.result.start + c.chunk_meeting-found.result.start) c.meeting_block-spot.ensures.apart
    (apart-on (g.T.Share.lies_apart c.args.sought.now) (joined c.args.blocks.now) c.table.result.now c.meeting_block-spot.result.start c.chunk_meeting-found.result.start outer (run-starts c.table.result.now c.chunk_meeting-found.result.items.now c.chunk_meeting-found.result.start c.chunk_meeting-found.ensures.held.run) c.chunk_meeting-found.ensures.apart)
