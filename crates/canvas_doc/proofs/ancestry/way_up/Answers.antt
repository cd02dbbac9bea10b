use Rattle.std.proofs.Common.{◌≡◌, ◌-◌, arith, subst}
use Rattle.canvas_record.specs.Tree.{IsInLimits}
use Rattle.canvas_doc.proofs.tree.Ways.{end-nowhere, end-spent, holder-all, IsOnWay, way-begins, way-goes_on, way-is}
use Rattle.canvas_doc.proofs.ancestry.way_up.Goals as goal

pub loop-depth-init : goal.loop-depth-init
loop-depth-init c = way-begins c.args.records.now c.args.id c.args.steps c.args.parent

pub then-pose-requires-clause-quarters : goal.then-pose-requires-clause-quarters
then-pose-requires-clause-quarters c =
    let limits : IsInLimits c.in-Some.shape.now = holder-all IsInLimits c.loop-depth.at c.args.records.now c.in-Some.shape.now c.requires.limits c.in-Some.ensures in
    (c.loop-depth.invariant.quarter, limits.quarter)

pub then-pose-requires-clause-reaches : goal.then-pose-requires-clause-reaches
then-pose-requires-clause-reaches c =
    let limits : IsInLimits c.in-Some.shape.now = holder-all IsInLimits c.loop-depth.at c.args.records.now c.in-Some.shape.now c.requires.limits c.in-Some.ensures in
    omega (arith, c.loop-depth.invariant.reach, limits.reach, c.loop-depth-test.true, c.requires.steps)

pub loop-depth-preserved : goal.loop-depth-preserved
loop-depth-preserved c =
    let limits : IsInLimits c.in-Some.shape.now = holder-all IsInLimits c.loop-depth.at c.args.records.now c.in-Some.shape.now c.requires.limits c.in-Some.ensures in
    way-goes_on c.args.records.now c.args.id c.args.steps c.args.parent c.loop-depth.depth c.loop-depth.at c.loop-depth.has_own c.loop-depth.pose c.then-pose.result c.in-Some.shape.now c.loop-depth.invariant c.loop-depth-test.true c.in-Some.ensures limits
    c.then-pose.ensures.carries c.then-pose.ensures.quarter c.then-pose.ensures.reach

pub returns-in_default : goal.returns-in_default
returns-in_default c =
    way-is c.args.records.now c.args.id c.args.steps c.args.parent c.loop-depth.depth c.loop-depth.at c.loop-depth.has_own c.loop-depth.pose c.loop-depth.invariant
    (end-nowhere c.args.records.now c.args.id (c.args.steps - c.loop-depth.depth) c.loop-depth.at (omega (arith, c.loop-depth-test.true)) c.in_default.ensures) (omega (arith, c.loop-depth-test.true, c.requires.steps))

pub returns : goal.returns
returns c =
    let all : c.loop-depth.depth ≡ c.args.steps = omega (arith, c.loop-depth-test.false, c.loop-depth.auto.depth-end) in
    way-is c.args.records.now c.args.id c.args.steps c.args.parent c.args.steps c.loop-depth.at c.loop-depth.has_own c.loop-depth.pose
    (subst (λ n. IsOnWay c.args.records.now c.args.id c.args.steps c.args.parent n c.loop-depth.at c.loop-depth.has_own c.loop-depth.pose) all c.loop-depth.invariant)
    (end-spent c.args.records.now c.args.id (c.args.steps - c.args.steps) c.loop-depth.at (omega arith)) c.requires.steps
