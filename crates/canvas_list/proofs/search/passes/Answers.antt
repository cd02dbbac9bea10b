use Rattle.canvas_list.proofs.Parted.{answers}
use Rattle.canvas_list.proofs.search.passes.Goals as goal

pub returns : goal.returns
returns g c = λ p by. answers g.P.Fn _ _ _ _ _ ((g.met.P.FnMut.1.post_iff _ _ _).0 c.pred.ensures).1 by
