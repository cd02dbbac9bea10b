use Rattle.std.proofs.Common.{◌+◌, arith}
use Rattle.std.proofs.lemmas.List.Elements.{All-weaker}
use Rattle.canvas_list.proofs.Apart.{between-more, count-more}
use Rattle.canvas_list.proofs.Joined.{take-fewer}
use Rattle.canvas_list.proofs.reader.part_meeting.Goals as goal

pub overflow_add-start : goal.overflow_add-start
overflow_add-start g c =
    omega (
      arith,
      c.requires,
      take-fewer c.args.parts.now (c.loop-chunk.chunk + 1),
      count-more c.args.parts.now c.loop-chunk.chunk c.loop-chunk.start c.count-start.result c.index-parts-chunk.result c.loop-chunk-test.true c.index-parts-chunk.is c.loop-chunk.invariant.start c.count-start.ensures.count,
    )

pub loop-chunk-preserved : goal.loop-chunk-preserved
loop-chunk-preserved g c = record {
  start = count-more c.args.parts.now c.loop-chunk.chunk c.loop-chunk.start c.count-start.result c.index-parts-chunk.result c.loop-chunk-test.true c.index-parts-chunk.is c.loop-chunk.invariant.start c.count-start.ensures.count;
  on = λ h. omega (arith, c.count-start.ensures.count, c.count-start.ensures.some);
  apart =
      between-more (g.T.Share.lies_apart c.args.sought.now) c.args.parts.now c.loop-chunk.chunk c.loop-chunk.start c.count-start.result c.index-parts-chunk.result c.loop-chunk-test.true c.index-parts-chunk.is c.loop-chunk.invariant.start c.count-start.ensures.count c.loop-chunk.invariant.apart
      (All-weaker (g.T.Share.covers c.summary.result.now) (g.T.Share.lies_apart c.args.sought.now) (c.may_meet.ensures c.if-may_meet.false) c.index-parts-chunk.result c.summary.ensures);
}
