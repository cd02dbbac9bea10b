-- How far a follower of a feed is sent next.
use Rattle.std.specs.Prelude.{◌<◌}
use Rattle.canvasd.specs.declared.feed.More.{More}
use Rattle.canvasd.specs.declared.feed.More.TheVariants.{Next, Nothing, Over}
use Rattle.canvasd.specs.declared.feed.Reach.{Reach}

-- it is farther than before
abbrev pub IsBeyond : Reach → More → Type 0
IsBeyond sent (Next next) = sent.end < next.end
IsBeyond sent Nothing = Unit {0}
IsBeyond sent Over = Unit {0}
