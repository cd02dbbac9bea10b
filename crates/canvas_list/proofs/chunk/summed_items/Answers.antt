use Rattle.std.proofs.Common.{All, arith, subst, take}
use Rattle.std.proofs.lemmas.List.{take_all}
use Rattle.std.proofs.lemmas.List.Elements.{All-more, All-weaker}
use Rattle.canvas_list.proofs.chunk.summed_items.Goals as goal

pub loop-item-preserved : goal.loop-item-preserved
loop-item-preserved g c = record {
  items =
      All-more (g.T.Share.covers c.summed-summary.result) c.args.items.now c.loop-item.item-index c.item-item.result c.loop-item-test.true
      (All-weaker (g.T.Share.covers c.loop-item.summary) (g.T.Share.covers c.summed-summary.result) c.summed-summary.ensures.first (take c.loop-item.item-index c.args.items.now) c.loop-item.invariant.items)
      (c.summed-summary.ensures.second _ (subst (g.T.Share.covers c.summary.result) c.item-item.is c.summary.ensures));
  other = λ item h. c.summed-summary.ensures.first item (c.loop-item.invariant.other item h);
}

pub returns-clause-items : goal.returns-clause-items
returns-clause-items g c = subst (All (g.T.Share.covers c.loop-item.summary)) (take_all c.loop-item.item-index c.args.items.now (omega arith)) c.loop-item.invariant.items
