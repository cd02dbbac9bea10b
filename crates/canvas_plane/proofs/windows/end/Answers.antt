use Rattle.std.proofs.Common.{subst, sym, ◌^◌, ◌≤ℤ◌, ◌∙◌, pos, w32}
use Rattle.std.proofs.lemmas.Int.{to_z-of_z}
use Rattle.canvas_plane.proofs.Ends.{short-near, short-sum-kept, sum-within}
use Rattle.canvas_plane.proofs.windows.end.Goals as goal
use lib.IntN.{neg_ℤ}

pub returns-clause-value : goal.returns-clause-value
returns-clause-value c =
    short-sum-kept c.args.from c.from.result c.from-2.result c.args.at c.ranges.from (record { sfits = c.from.type_inv }) (c.from.ensures ∙ to_z-of_z w32 c.args.from c.ranges.from) c.from-2.ensures c.ranges.at.fits

pub returns-clause-within : goal.returns-clause-within
returns-clause-within c =
    let n = short-near c.args.from c.ranges.from in
    let e = short-sum-kept c.args.from c.from.result c.from-2.result c.args.at c.ranges.from (record { sfits = c.from.type_inv }) (c.from.ensures ∙ to_z-of_z w32 c.args.from c.ranges.from) c.from-2.ensures c.ranges.at.fits in
    subst (λ z. (neg_ℤ (pos (2 ^ 41)) ≤ℤ z) × (z ≤ℤ pos (2 ^ 41))) (sym e) (sum-within c.args.from c.args.at n.0 n.1 c.ranges.at.fits)
