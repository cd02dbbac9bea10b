use Rattle.std.proofs.Common.{arith, refl}
use Rattle.canvas_list.proofs.Joined.{start-read, sum-joined}
use Rattle.canvas_list.proofs.Stretches.{stretch-of-chunk}
use Rattle.canvas_list.proofs.reader.run_in.Goals as goal

pub spot_near-spot-requires-clause-few : goal.spot_near-spot-requires-clause-few
spot_near-spot-requires-clause-few g c = omega (arith, sum-joined c.args.chunks.now, c.requires.few)

pub returns : goal.returns
returns g c =
    stretch-of-chunk c.args.chunks.now c.spot_near-spot.result.chunk c.spot_near-spot.result.start c.index-chunks-spot.result c.items.result.now
    c.spot_near-spot.ensures.within (start-read c.args.chunks.now c.args.chunks.now c.spot_near-spot.result.chunk c.spot_near-spot.result.start refl c.spot_near-spot.ensures.start) c.index-chunks-spot.is c.items.ensures.same
