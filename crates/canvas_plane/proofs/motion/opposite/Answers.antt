use Rattle.std.proofs.Common.{ap, ◌∙◌}
use Rattle.canvas_plane.specs.Motion.{size_of}
use Rattle.canvas_plane.proofs.Turns.{negated-kept, size-negated}
use Rattle.canvas_plane.proofs.motion.opposite.Goals as goal

pub returns-clause-value : goal.returns-clause-value
returns-clause-value c = negated-kept c.args.point c.requires

pub returns-clause-size : goal.returns-clause-size
returns-clause-size c = ap size_of (negated-kept c.args.point c.requires) ∙ size-negated c.args.point
