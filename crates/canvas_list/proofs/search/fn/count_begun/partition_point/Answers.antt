use Rattle.std.proofs.Common.{◌∙◌}
use Rattle.canvas_list.proofs.Parted.{answers, passes-first}
use Rattle.canvas_list.proofs.search.fn.count_begun.partition_point.Goals as goal

pub returns : goal.returns
returns g c =
    λ p by.
    let called = (g.met.P.FnMut.1.post_iff _ _ _).0 c.pred.ensures in
    answers g.P.Fn _ _ _ _ _ called.1 by ∙ passes-first p c.args.part.now c.first.result.now c.first.ensures
