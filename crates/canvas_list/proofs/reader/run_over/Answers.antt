use Rattle.std.proofs.Common.{◌≡◌, ◌+◌, arith, length, refl, take}
use Rattle.canvas_list.specs.Chunks.{joined}
use Rattle.canvas_list.proofs.Joined.{chunk-read, start-read, sum-joined, take-fewer}
use Rattle.canvas_list.proofs.Stretches.{stretch-of-block}
use Rattle.canvas_list.proofs.reader.run_over.Goals as goal

pub spot_near-spot-requires-clause-few : goal.spot_near-spot-requires-clause-few
spot_near-spot-requires-clause-few g c = omega (arith, sum-joined c.args.blocks.now, c.requires.few)

pub overflow_add-result : goal.overflow_add-result
overflow_add-result g c =
    let start : c.spot_near-spot.result.start ≡ length (joined (take c.spot_near-spot.result.chunk c.args.blocks.now)) = start-read c.args.blocks.now c.args.blocks.now c.spot_near-spot.result.chunk c.spot_near-spot.result.start refl c.spot_near-spot.ensures.start in
    omega (
      arith,
      start,
      c.requires.few,
      c.run_near-run.ensures.run.within,
      take-fewer c.args.blocks.now (c.spot_near-spot.result.chunk + 1),
      chunk-read c.args.blocks.now c.spot_near-spot.result.chunk c.index-blocks-spot.result c.table.result.now c.spot_near-spot.ensures.within c.index-blocks-spot.is c.table.ensures.same,
    )

pub overflow_add-result-3 : goal.overflow_add-result-3
overflow_add-result-3 g c =
    let start : c.spot_near-spot.result.start ≡ length (joined (take c.spot_near-spot.result.chunk c.args.blocks.now)) = start-read c.args.blocks.now c.args.blocks.now c.spot_near-spot.result.chunk c.spot_near-spot.result.start refl c.spot_near-spot.ensures.start in
    omega (arith, start, c.requires.few, c.count.ensures.few, take-fewer c.args.blocks.now c.spot_near-spot.result.chunk)

pub returns : goal.returns
returns g c =
    stretch-of-block c.args.blocks.now c.spot_near-spot.result.chunk c.spot_near-spot.result.start c.run_near-run.result.start c.count.result c.run_near-run.result.beyond_start c.index-blocks-spot.result c.table.result.now c.run_near-run.result.items.now (joined c.run_near-run.result.behind.now) (joined c.run_near-run.result.beyond.now)
    c.spot_near-spot.ensures.within (start-read c.args.blocks.now c.args.blocks.now c.spot_near-spot.result.chunk c.spot_near-spot.result.start refl c.spot_near-spot.ensures.start) c.index-blocks-spot.is c.table.ensures.same c.count.ensures.count c.run_near-run.ensures
