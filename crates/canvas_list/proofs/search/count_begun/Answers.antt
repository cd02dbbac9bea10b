use Rattle.std.proofs.lemmas.Fn.{always_returns_same}
use Rattle.canvas_list.specs.Chunks.{first_passes}
use Rattle.canvas_list.proofs.search.count_begun.Goals as goal

pub returns-clause-partitioned : goal.returns-clause-partitioned
returns-clause-partitioned g c =
    λ p by parted.
    c.partition_point.ensures.partitioned (first_passes p) (always_returns_same _ _ _ (λ a r f called. (called.met.1 p by, λ j. record { 0 = called.met.0 j }))) parted
