use Rattle.std.proofs.Common.{ap, ◌∙◌}
use Rattle.canvas_plane.specs.Motion.{size_of}
use Rattle.canvas_plane.proofs.Turns.{flipped-kept, size-flipped}
use Rattle.canvas_plane.proofs.motion.flip.Goals as goal

pub returns-then-flip-clause-size : goal.returns-then-flip-clause-size
returns-then-flip-clause-size c = ap size_of (flipped-kept c.args.point c.requires) ∙ size-flipped c.args.point
