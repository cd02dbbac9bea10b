use Rattle.canvas_shape.proofs.Limits.{sound-vertices}
use Rattle.canvas_shape.proofs.Kind.check.Goals as goal

pub returns-then-not-has_vertices-clause-sound : goal.returns-then-not-has_vertices-clause-sound
returns-then-not-has_vertices-clause-sound c =
    (λ h. cc h, λ s. let e = sound-vertices c.args.self.now s in let f = c.has_vertices.ensures in let g = c.if-not-has_vertices.true in cc)
