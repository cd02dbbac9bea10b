use Rattle.std.proofs.lemmas.Fn.{always_returns_same}
use Rattle.canvas_list.proofs.Parted.{answers}
use Rattle.canvas_list.proofs.search.count_passed.Goals as goal

pub returns-clause-partitioned : goal.returns-clause-partitioned
returns-clause-partitioned g c =
    λ p by parted.
    c.partition_point.ensures.partitioned p (always_returns_same _ _ _ (λ a r f called. (answers g.P.Fn _ _ _ _ _ ((g.met.P.FnMut.1.post_iff _ _ _).0 called.met.0).1 by, called.met.1))) parted
