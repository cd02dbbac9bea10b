use Rattle.std.proofs.Common.{subst, sym, ◌^◌, ◌≤ℤ◌, pos}
use Rattle.canvas_plane.proofs.Ends.{sum-kept, sum-within}
use Rattle.canvas_plane.proofs.windows.far_edge.Goals as goal
use lib.IntN.{neg_ℤ}

pub returns-clause-value : goal.returns-clause-value
returns-clause-value c = sum-kept c.args.from c.from.result c.args.size c.ranges.from c.from.ensures c.requires.0 c.requires.1 c.ranges.size.fits

pub returns-clause-within : goal.returns-clause-within
returns-clause-within c =
    let e = sum-kept c.args.from c.from.result c.args.size c.ranges.from c.from.ensures c.requires.0 c.requires.1 c.ranges.size.fits in
    subst (λ z. (neg_ℤ (pos (2 ^ 41)) ≤ℤ z) × (z ≤ℤ pos (2 ^ 41))) (sym e) (sum-within c.args.from c.args.size c.requires.0 c.requires.1 c.ranges.size.fits)
