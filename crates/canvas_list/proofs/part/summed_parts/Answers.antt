use Rattle.std.proofs.Common.{All, ap, arith, subst, take}
use Rattle.std.proofs.lemmas.List.{take_all}
use Rattle.std.proofs.lemmas.List.Elements.{All-weaker}
use Rattle.canvas_list.specs.Chunks.{joined}
use Rattle.canvas_list.proofs.Apart.{all-joined}
use Rattle.canvas_list.proofs.part.summed_parts.Goals as goal

pub loop-part-preserved : goal.loop-part-preserved
loop-part-preserved g c = record {
  items =
      all-joined (g.T.Share.covers c.summed-summary.result) c.args.parts.now c.loop-part.part-index c.part-item.result c.loop-part-test.true c.part-item.is
      (All-weaker (g.T.Share.covers c.loop-part.summary) (g.T.Share.covers c.summed-summary.result) c.summed-summary.ensures.first (joined (take c.loop-part.part-index c.args.parts.now)) c.loop-part.invariant.items)
      (All-weaker (g.T.Share.covers c.summary.result.now) (g.T.Share.covers c.summed-summary.result) c.summed-summary.ensures.second c.part-item.result c.summary.ensures);
  other = λ item h. c.summed-summary.ensures.first item (c.loop-part.invariant.other item h);
}

pub returns-clause-items : goal.returns-clause-items
returns-clause-items g c = subst (All (g.T.Share.covers c.loop-part.summary)) (ap joined (take_all c.loop-part.part-index c.args.parts.now (omega arith))) c.loop-part.invariant.items
