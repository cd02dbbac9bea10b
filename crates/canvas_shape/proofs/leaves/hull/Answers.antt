use Rattle.std.proofs.Common.{FitsSigned, rules, refl}
use Rattle.std.specs.Int.{w64}
use Rattle.std.proofs.lemmas.Int.{to_z-of_z}
use Rattle.canvas_shape.proofs.Sizes.{ends-kept, x-fits, y-fits, x-near, y-near}
use Rattle.canvas_shape.proofs.leaves.hull.Goals as goal

pub invariant_of-result : goal.invariant_of-result
invariant_of-result c =
    let l : FitsSigned w64 c.ends-left.result.0 = search rules in
    let r : FitsSigned w64 c.ends-left.result.1 = search rules in
    let t : FitsSigned w64 c.ends-top.result.0 = search rules in
    let b : FitsSigned w64 c.ends-top.result.1 = search rules in
    record { across = simp to_z-of_z (c.ends-left.ensures.side); down = simp to_z-of_z (c.ends-top.ensures.side) }

pub returns : goal.returns
returns c =
    let l : FitsSigned w64 c.ends-left.result.0 = search rules in
    let r : FitsSigned w64 c.ends-left.result.1 = search rules in
    let t : FitsSigned w64 c.ends-top.result.0 = search rules in
    let b : FitsSigned w64 c.ends-top.result.1 = search rules in
    let px : FitsSigned w64 c.args.p.x = search rules in
    let py : FitsSigned w64 c.args.p.y = search rules in
    let qx : FitsSigned w64 c.args.q.x = search rules in
    let qy : FitsSigned w64 c.args.q.y = search rules in
    let e = simp to_z-of_z at c.ends-left.ensures.value in
    let f = simp to_z-of_z at c.ends-top.ensures.value in
    simp to_z-of_z (rw (e, f) refl)

pub ends-left-requires-clause-first : goal.ends-left-requires-clause-first
ends-left-requires-clause-first c = x-near c.args.p c.requires.first

pub ends-left-requires-clause-second : goal.ends-left-requires-clause-second
ends-left-requires-clause-second c = x-near c.args.q c.requires.second

pub ends-left-requires-clause-apart : goal.ends-left-requires-clause-apart
ends-left-requires-clause-apart c = ends-kept c.args.p.x c.args.q.x (x-fits c.args.p c.requires.first) (x-fits c.args.q c.requires.second) c.requires.across

pub ends-top-requires-clause-first : goal.ends-top-requires-clause-first
ends-top-requires-clause-first c = y-near c.args.p c.requires.first

pub ends-top-requires-clause-second : goal.ends-top-requires-clause-second
ends-top-requires-clause-second c = y-near c.args.q c.requires.second

pub ends-top-requires-clause-apart : goal.ends-top-requires-clause-apart
ends-top-requires-clause-apart c = ends-kept c.args.p.y c.args.q.y (y-fits c.args.p c.requires.first) (y-fits c.args.q c.requires.second) c.requires.down
