use Rattle.std.proofs.Common.{rules, ◌≡◌, ◌∷◌, [], arith}
use Rattle.canvas_paint.specs.Blocks.{is_free}
use Rattle.canvas_paint.specs.Words.{is_within}
use Rattle.canvas_paint.proofs.Hiding.{row-above, row-below, same-region}
use Rattle.canvas_paint.proofs.block.Region.uncovered.Goals as goal

pub loop-top-preserved : goal.loop-top-preserved
loop-top-preserved c =
    let r = c.args.self in
    let none : c.row_both.result ≡ 0 ∷ 0 ∷ 0 ∷ 0 ∷ [] = search rules in
    record {
      low = omega (arith, c.loop-top.invariant.low);
      covered = λ k z lt low high columns. row-above c.args.free.now c.row_both.result c.row_between-reach.result r.from r.to r.top c.loop-top.top k z none c.row_both.ensures c.row_between-reach.ensures c.loop-top.invariant.covered lt low high columns;
    }

pub loop-bottom-preserved : goal.loop-bottom-preserved
loop-bottom-preserved c =
    let r = c.args.self in
    let none : c.row_both-in-loop-bottom.result ≡ 0 ∷ 0 ∷ 0 ∷ 0 ∷ [] = search rules in
    record {
      high = omega (arith, c.loop-bottom.invariant.high);
      covered = λ k z lt low high columns. row-below c.args.free.now c.row_both-in-loop-bottom.result c.row_between-reach.result r.from r.to r.bottom c.loop-bottom.bottom k z none c.row_both-in-loop-bottom.ensures c.row_between-reach.ensures c.loop-bottom.invariant.covered lt low high columns;
    }

pub returns-else-eq-2-clause-exact : goal.returns-else-eq-2-clause-exact
returns-else-eq-2-clause-exact c = λ k j lt on.
    let r = c.args.self in
    same-region (is_within r.from k r.to) r.top r.bottom c.loop-top.top c.loop-bottom.bottom j (is_free c.args.free.now k j) c.loop-top.invariant.low c.loop-bottom.invariant.high
    (λ columns low high. c.loop-top.invariant.covered k j lt low high columns)
    (λ columns low high. c.loop-bottom.invariant.covered k j lt low high columns)
    on

pub returns-after-loop-bottom-clause-exact : goal.returns-after-loop-bottom-clause-exact
returns-after-loop-bottom-clause-exact c = λ k j lt on.
    let r = c.args.self in
    same-region (is_within r.from k r.to) r.top r.bottom c.loop-top.top c.loop-bottom.bottom j (is_free c.args.free.now k j) c.loop-top.invariant.low c.loop-bottom.invariant.high
    (λ columns low high. c.loop-top.invariant.covered k j lt low high columns)
    (λ columns low high. c.loop-bottom.invariant.covered k j lt low high columns)
    on
