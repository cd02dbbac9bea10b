use Rattle.std.proofs.Common.{◌∙◌, ap}
use Rattle.std.specs.List.{sum_by}
use Rattle.std.proofs.lemmas.List.{take_all}
use Rattle.canvas_list.proofs.Counts.{counted-one}
use Rattle.canvas_list.proofs.counted.count_of.Goals as goal

pub loop-part-preserved : goal.loop-part-preserved
loop-part-preserved g c = counted-one g.P.Counted.size c.args.parts.now c.loop-part.part-index c.loop-part.count c.count-count.result c.part-item.result c.loop-part-test.true c.loop-part.invariant c.count-count.ensures.count c.part-item.is

pub returns : goal.returns
returns g c = c.loop-part.invariant ∙ ap (sum_by g.P.Counted.size) (take_all c.loop-part.part-index c.args.parts.now c.loop-part-test.false)
