use Rattle.canvas_list.proofs.Spliced.{part-about}
use Rattle.canvas_list.proofs.counted.part_about.Goals as goal

pub returns : goal.returns
returns g c =
    part-about g.P.Counted.size c.args.parts.now c.args.at c.spot_of.result.chunk c.spot_of.result.start c.short_about-about.result.first c.short_about-about.result.end c.count_of.result c.spot_of.ensures c.short_about-about.ensures.first c.short_about-about.ensures.end c.short_about-about.ensures.within c.count_of.ensures
