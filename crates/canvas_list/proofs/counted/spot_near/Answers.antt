use Rattle.std.proofs.Common.{length, refl}
use Rattle.canvas_list.proofs.Counts.{counted-one, few-and-one, one-behind}
use Rattle.canvas_list.proofs.counted.spot_near.Goals as goal

pub pass-init : goal.pass-init
pass-init g c = record { within = c.requires.some; passed = refl }

pub pass-preserved : goal.pass-preserved
pass-preserved g c = record {
  within = one-behind c.pass.chunk (length c.args.parts.now) c.pass-test.true;
  passed = counted-one g.P.Counted.size c.args.parts.now c.pass.chunk c.pass.start c.count-start.result c.index-parts-chunk-in-pass.result c.pass.invariant.within c.pass.invariant.passed c.count-start.ensures.count c.index-parts-chunk-in-pass.is;
}

pub returns-after-pass : goal.returns-after-pass
returns-after-pass g c = record { within = c.pass.invariant.within; start = c.pass.invariant.passed }

pub returns-else-is_before : goal.returns-else-is_before
returns-else-is_before g c = record { within = c.pass.invariant.within; start = c.pass.invariant.passed }

pub overflow_add-start : goal.overflow_add-start
overflow_add-start g c = few-and-one g.P.Counted.size c.args.parts.now c.pass.chunk c.pass.start c.count-start.result c.index-parts-chunk-in-pass.result c.pass.invariant.within c.pass.invariant.passed c.count-start.ensures.count c.index-parts-chunk-in-pass.is c.requires.few
